-- What a line of the initial file is taken for, and what its run tells.
use Rattle.std.proofs.Common.{◌≡◌, ◌≢◌, ℕ, Bool, true, false, List, [], Option, Some, None, Result, Ok, Err, ap, sym, subst, ◌∙◌, refl, true≢false}
use Rattle.std.specs.Borrow.{Bor}
use Rattle.std.specs.Prelude.{option_copied}
use Rattle.chk_control.specs.declared.commands.Command.TheVariants.{Blank, Add, Close, Help, List as ListAll, ReloadCollectors, Stop, StopAll, Shutdown, StopAgent}
use Rattle.chk_control.specs.Lines.{Meaning, meaning_of}
use Rattle.chk_site.specs.declared.acts.Who.{Who}
use Rattle.chk_site.specs.declared.acts.OutsideFault.{OutsideFault}
use Rattle.chk_site.specs.History.{History}
use Rattle.chk_replace.specs.Load.{ReadInTurn}
use Rattle.chk_agent.specs.declared.answers.Reply.{Reply}
use Rattle.chk_agent.specs.States.{State}
use Rattle.chk_agent.specs.Commands.{IsCommand}
use Rattle.chk_agent_run.specs.Lent.{word_of}
use Rattle.chk_agent_run.specs.Initial.{text_of, ReadsInitial, no_file, read, is_live_in, is_met, is_add, AddsStream, IsLineAdded, accepted, refused}
use Rattle.chk_agent_run.proofs.Accepted.{AddTells, reads_it, refuses, add_tells}

-- a line that adds a stream is met where the stream is read
pub met_is : (line kind path : List ℕ) (s : State) → AddsStream kind path (meaning_of line)
    → is_met s (meaning_of line) ≡ is_live_in kind path s.adaptors
met_is line kind path s w = ap (is_met s) w.is

pub adds_is : (line kind path : List ℕ) → AddsStream kind path (meaning_of line) → is_add (meaning_of line) ≡ true
adds_is line kind path w = ap is_add w.is

told_by : {line : List ℕ} {s t : State} {reply : Reply} {old new : Option History} → AddTells line s reply t old new
    → is_met s (meaning_of line) ≡ false → is_add (meaning_of line) ≡ true → IsCommand line s (Ok reply) t old new
    → (b : Bool) → b ≡ is_met t (meaning_of line) → IsLineAdded line s (Ok b) t old new
told_by {line = line} {s = s} {t = t} {reply = reply} {old = old} {new = new} (reads_it is) met adds did b b_is =
    subst (λ (k : Bool). IsLineAdded line s (Ok k) t old new) (sym (b_is ∙ is)) (accepted reply met adds did is)
told_by {line = line} {s = s} {old = old} (refuses n) met adds did b b_is =
    subst (λ (k : Bool). IsLineAdded line s (Ok k) s old old) (sym (b_is ∙ met)) (refused n met adds did)

-- the line was run, and its stream is read then or not
pub line_run : {line : List ℕ} {s t : State} {reply : Reply} {old new : Option History} → is_met s (meaning_of line) ≡ false
    → is_add (meaning_of line) ≡ true → IsCommand line s (Ok reply) t old new
    → (b : Bool) → b ≡ is_met t (meaning_of line) → IsLineAdded line s (Ok b) t old new
line_run met adds did b b_is = told_by (add_tells adds did) met adds did b b_is

-- ---- the file

pub no_file_named : (writer : Who) (o : Option (Bor (List ℕ))) → o ≡ None → (bytes : List ℕ) → bytes ≡ [] → (now : Option History)
    → ReadsInitial writer (word_of o) (Ok bytes) now now
no_file_named writer o is bytes empty now =
    subst (λ (b : List ℕ). ReadsInitial writer (word_of o) (Ok b) now now) (sym empty)
    (subst (λ (k : Option (Bor (List ℕ))). ReadsInitial writer (word_of k) (Ok []) now now) (sym is) no_file)

pub file_read : (writer : Who) (o : Option (Bor (List ℕ))) (d : Bor (List ℕ)) → o ≡ Some d → (name : List ℕ) → name ≡ d.now
    → (given : Result (Option (List ℕ)) OutsideFault) (result : Result (List ℕ) OutsideFault) → text_of given ≡ result
    → {old new : Option History} → ReadInTurn writer name [] given old new → ReadsInitial writer (word_of o) result old new
file_read writer o d is name same given result text {old = old} {new = new} reads =
    subst (λ (r : Result (List ℕ) OutsideFault). ReadsInitial writer (word_of o) r old new) text
    (subst (λ (k : Option (Bor (List ℕ))). ReadsInitial writer (word_of k) (text_of given) old new) (sym is)
    (read d.now given (subst (λ (n : List ℕ). ReadInTurn writer n [] given old new) same reads)))

-- ---- what a line asks for

-- a line that adds nothing and isn't blank has something to refuse
pub other_met : (s : State) (m : Meaning) → is_add m ≡ false → m ≢ Ok Blank → is_met s m ≡ false
other_met s (Ok Blank) adds blank = absurd (blank refl)
other_met s (Ok (Add name class kind path offset)) adds blank = absurd (true≢false adds)
other_met s (Ok Close) adds blank = refl
other_met s (Ok Help) adds blank = refl
other_met s (Ok ListAll) adds blank = refl
other_met s (Ok ReloadCollectors) adds blank = refl
other_met s (Ok (Stop name)) adds blank = refl
other_met s (Ok StopAll) adds blank = refl
other_met s (Ok (Shutdown name)) adds blank = refl
other_met s (Ok StopAgent) adds blank = refl
other_met s (Err fault) adds blank = refl

-- ---- what is lent

pub word_copied : (o : Option (Bor (List ℕ))) (given : Option (List ℕ)) → option_copied o ≡ given → word_of o ≡ given
word_copied None given is = is
word_copied (Some word) given is = is
