-- No agent has a source that isn't one, so its streams never begin.
use Rattle.std.proofs.Common.{◌≡◌, ℕ, false, ◌&&◌, List, [], ◌∷◌, ◌++◌, None, ap, ◌∙◌, if◌then◌else◌, refl, bytes_eq, codes}
use Rattle.std.specs.Prelude.{find}
use Rattle.chk_bytes.specs.Words.{before_end, joined}
use Rattle.chk_site.specs.declared.acts.Role.{Role}
use Rattle.chk_site.specs.declared.acts.Role.TheVariants.{Agent, Collector, Job, Writer}
use Rattle.chk_site.specs.History.{History, files_after, logs_after}
use Rattle.chk_chunk.specs.Keys.{Stream}
use Rattle.chk_world.specs.Names.{CheckFile, Temporary, OtherFile, is_source, spell, read, guessed_name, if_spelled, owns_by, file}
use Rattle.chk_world.specs.Checkpoints.{is_line_of, lines_in, line_of}
use Rattle.chk_world.specs.Streams.{founding, founded_by, or_else, parts_since, bytes_of, log_of}
use Rattle.chk_world.specs.Rules.{Legal}
use Rattle.chk_world.proofs.NameLemmas.{picked_none, in_agents, other_end}
use Rattle.chk_world.proofs.Nobody.{never_there}

-- the text of its checkpoint file
abbrev check_text : List ℕ → List ℕ
check_text source = spell (CheckFile source)

other_file : (source : List ℕ) → is_source source ≡ false → read (check_text source) ≡ OtherFile (check_text source)
unfolding read spell
other_file source e =
    let w = codes "agents/" ++ (source ++ codes ".check") in
    ap (λ g. if_spelled g w)
    (picked_none (λ t. Temporary (guessed_name t)) (before_end (codes ".tmp") w) (guessed_name w)
    (other_end (codes ".tm") 112 (codes "agents/" ++ source) (codes ".chec") 107 refl) ∙ in_agents source)
    ∙ ap (λ b. if b && bytes_eq w w then CheckFile source else OtherFile w) e

not_owned : (role : Role) (name source : List ℕ) → owns_by role name (OtherFile (check_text source)) ≡ false
unfolding spell
not_owned Agent name source = refl
not_owned Collector name source = refl
not_owned Job name source = refl
not_owned Writer name source = refl

no_checkpoint : (stamped : List (List ℕ)) (history : History) → Legal stamped history → (source : List ℕ) → is_source source ≡ false
    → file (files_after history) (CheckFile source) ≡ None
no_checkpoint stamped history legal source other =
    never_there (check_text source) (λ who. ap (owns_by who.role who.name) (other_file source other) ∙ not_owned who.role who.name source) stamped history legal

never_founded : (stamped : List (List ℕ)) (history : History) → Legal stamped history → (s : Stream) → is_source s.source ≡ false
    → founding history s ≡ None
never_founded stamped [] legal s other = refl
never_founded stamped (step ∷ history) legal s other =
    let none : line_of step.files s ≡ None =
    ap (λ o. find (is_line_of s) (lines_in o)) (no_checkpoint stamped (step ∷ history) legal s.source other) in
    ap (λ o. or_else o (founded_by (line_of step.files s) (step.logs s.name))) (never_founded stamped history legal.0 s other)
    ∙ ap (λ l. founded_by l (step.logs s.name)) none

-- its streams have no log
pub no_log : (stamped : List (List ℕ)) (history : History) → Legal stamped history → (s : Stream) → is_source s.source ≡ false
    → log_of history s ≡ []
no_log stamped history legal s other =
    ap (λ o. let p = parts_since o (logs_after history s.name) in joined (bytes_of p.rotated) ++ p.base) (never_founded stamped history legal s other)
