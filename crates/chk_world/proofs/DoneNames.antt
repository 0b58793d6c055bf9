-- A file of `sinks` whose name ends as a done sink's is one.
use Rattle.std.proofs.Common.{◌≡◌, ℕ, ◌-◌, Bool, true, false, List, [], ◌∷◌, ◌++◌, length, take, drop, Some, None, ap, sym, ◌∙◌, refl, true≢false, bytes_eq, take-append-drop, arith}
use Rattle.std.specs.Prelude.{codes, is_some, if◌then◌else◌}
use Rattle.std.proofs.lemmas.Option.{none-some}
use Rattle.chk_bytes.specs.Stems.{stem_text}
use Rattle.chk_site.specs.declared.acts.Role.{Role}
use Rattle.chk_site.specs.declared.acts.Role.TheVariants.{Agent, Collector, Job, Writer}
use Rattle.chk_site.specs.declared.acts.Who.{Who}
use Rattle.chk_site.specs.Files.{File}
use Rattle.chk_site.specs.History.{History, files_after}
use Rattle.chk_world.specs.Names.{ArchiveFolder, DemuxFolder, JoinedFolder, Name, BornFile, SinkFile, MarkFile, DoneFile, CheckFile, BookFile, SegmentFile, Temporary, OtherFile, read, spell, owns, owns_by}
use Rattle.chk_world.specs.ArchiveRuns.{is_closed, sink_path}
use Rattle.chk_world.specs.Rules.{Legal}
use Rattle.chk_world.specs.DoneSinks.{IsDoneName}
use Rattle.chk_world.proofs.Ends.{bytes_same}
use Rattle.chk_world.proofs.NameLemmas.{spell-read}
use Rattle.chk_world.proofs.Nobody.{never_there}

abbrev last_of : ℕ → List ℕ → ℕ
last_of d [] = d
last_of d (x ∷ xs) = last_of x xs

last_append : (d : ℕ) (xs ys : List ℕ) (e y : ℕ) → last_of d (xs ++ y ∷ ys) ≡ last_of e (y ∷ ys)
last_append d [] ys e y = refl
last_append d (x ∷ xs) ys e y = last_append x xs ys e y

abbrev first_of : List ℕ → ℕ
first_of [] = 0
first_of (x ∷ xs) = x

-- a text with an ending has that ending
closed_so : (name : List ℕ) → is_closed name ≡ true → (t : List ℕ) × (name ≡ t ++ codes ".done")
closed_so name h = go (bytes_eq (drop (length name - 5) name) (codes ".done")) refl h
  where
    go : (b : Bool) → bytes_eq (drop (length name - 5) name) (codes ".done") ≡ b
        → is_some (if b then Some (take (length name - 5) name) else None) ≡ true
        → (t : List ℕ) × (name ≡ t ++ codes ".done")
    go true e h =
        (take (length name - 5) name, sym (take-append-drop (length name - 5) name) ∙ ap (λ l. take (length name - 5) name ++ l) (bytes_same (drop (length name - 5) name) (codes ".done") e))
    go false e h = absurd (true≢false (sym h))

-- nobody has another file there
other_nobody : (name : List ℕ) (who : Who) → owns who (OtherFile (sink_path name)) ≡ false
other_nobody name who = go who.role
  where
    go : (role : Role) → owns_by role who.name (OtherFile (sink_path name)) ≡ false
    go Agent = refl
    go Collector = refl
    go Job = refl
    go Writer = refl

behind : (a b : List ℕ) → codes "sinks/" ++ a ≡ codes "sinks/" ++ b → a ≡ b
behind a b e = ap (drop 6) e

spelled_done : (name t : List ℕ) (n : Name) → name ≡ t ++ codes ".done" → spell n ≡ sink_path name
    → ((w : List ℕ) → n ≡ OtherFile w → ⊥) → IsDoneName name n
unfolding spell
spelled_done name t (DoneFile x) ends e no_other = (x, refl, sym (behind (stem_text x ++ codes ".done") name e))
spelled_done name t (BornFile c) ends e no_other =
    absurd (let same = sym (behind (c ++ codes ".born") name e) ∙ refl in
    let z : 101 ≡ 110 = sym (last_append 0 t (codes "done") 0 46) ∙ (ap (last_of 0) (sym ends ∙ same) ∙ last_append 0 c (codes "born") 0 46) in omega (arith, z))
spelled_done name t (SinkFile x) ends e no_other =
    absurd (let same = sym (behind (stem_text x ++ codes ".chukwa") name e) in
    let z : 101 ≡ 97 = sym (last_append 0 t (codes "done") 0 46) ∙ (ap (last_of 0) (sym ends ∙ same) ∙ last_append 0 (stem_text x) (codes "chukwa") 0 46) in omega (arith, z))
spelled_done name t (MarkFile x) ends e no_other =
    absurd (let same = sym (behind (stem_text x ++ codes ".mark") name e) in
    let z : 101 ≡ 107 = sym (last_append 0 t (codes "done") 0 46) ∙ (ap (last_of 0) (sym ends ∙ same) ∙ last_append 0 (stem_text x) (codes "mark") 0 46) in omega (arith, z))
spelled_done name t (CheckFile source) ends e no_other = absurd (let z : 97 ≡ 115 = ap first_of e in omega (arith, z))
spelled_done name t (BookFile ArchiveFolder) ends e no_other = absurd (let z : 97 ≡ 115 = ap first_of e in omega (arith, z))
spelled_done name t (BookFile DemuxFolder) ends e no_other = absurd (let z : 100 ≡ 115 = ap first_of e in omega (arith, z))
spelled_done name t (BookFile JoinedFolder) ends e no_other = absurd (let z : 106 ≡ 115 = ap first_of e in omega (arith, z))
spelled_done name t (SegmentFile ArchiveFolder k) ends e no_other = absurd (let z : 97 ≡ 115 = ap first_of e in omega (arith, z))
spelled_done name t (SegmentFile DemuxFolder k) ends e no_other = absurd (let z : 100 ≡ 115 = ap first_of e in omega (arith, z))
spelled_done name t (SegmentFile JoinedFolder k) ends e no_other = absurd (let z : 106 ≡ 115 = ap first_of e in omega (arith, z))
spelled_done name t (Temporary n) ends e no_other =
    absurd (let z : 101 ≡ 112 = sym (last_append 0 (codes "sinks/" ++ t) (codes "done") 0 46)
    ∙ (ap (λ l. last_of 0 (codes "sinks/" ++ l)) (sym ends) ∙ (sym (ap (last_of 0) e) ∙ last_append 0 (spell n) (codes "tmp") 0 46)) in omega (arith, z))
spelled_done name t (OtherFile w) ends e no_other = absurd (no_other w refl)

other_word : (v w : List ℕ) → read v ≡ OtherFile w → w ≡ v
unfolding spell
other_word v w is = sym (ap spell is) ∙ spell-read v

-- a file of the sinks whose name ends in `.done` is the done sink of a stem
pub done_named : (stamped : List (List ℕ)) (history : History) → Legal stamped history
    → (name : List ℕ) → is_closed name ≡ true → (f : File)
    → files_after history (sink_path name) ≡ Some f → IsDoneName name (read (sink_path name))
done_named stamped history legal name closed f there =
    let t = closed_so name closed in
    spelled_done name t.0 (read (sink_path name)) t.1 (spell-read (sink_path name)) (λ w is.
    let same : w ≡ sink_path name = other_word (sink_path name) w is in
    absurd (none-some f (sym (never_there (sink_path name) (λ who. ap (owns who) (is ∙ ap OtherFile same) ∙ other_nobody name who) stamped history legal) ∙ there)))
