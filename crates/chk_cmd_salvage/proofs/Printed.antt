-- Prints, one after the other, and the lines that they say.
use Rattle.std.proofs.Common.{◌≡◌, inl, inr, ℕ, ◌≤◌, Bool, true, false, List, [], ◌∷◌, ◌++◌, length, Ok, Err, Option, Result, refl, sym, ◌∙◌, ap, subst, append_assoc, append-nil}
use Rattle.std.specs.Prelude.{MatchResult}
use Rattle.chk_site.specs.declared.acts.Who.{Who}
use Rattle.chk_site.specs.declared.acts.Call.TheVariants.{Say}
use Rattle.chk_site.specs.declared.acts.CallFault.{CallFault}
use Rattle.chk_site.specs.declared.acts.CallFault.TheVariants.{Failed, Missing, Exists, Short, NoMemory}
use Rattle.chk_site.specs.declared.acts.OutsideFault.{OutsideFault}
use Rattle.chk_site.specs.declared.acts.OutsideFault.TheVariants.{NoMemory as no_memory}
use Rattle.chk_site.specs.declared.acts.ActAnswer.{ActAnswer}
use Rattle.chk_site.specs.declared.acts.ActAnswer.TheVariants.{Refused, Stopped}
use Rattle.chk_site.specs.Acts.{Says}
use Rattle.chk_site.specs.History.{History, is_stopped}
use Rattle.chk_site.specs.Site.{Adds, Asked, asked, answered, plain, Acted, Calls, IsDone, Ends, MayFail, LastFailed}
use Rattle.chk_site.proofs.Runs.{adds_then, adds_as, every_join, ran}
use Rattle.chk_replace.proofs.CallSteps.{call_each}
use Rattle.chk_site.proofs.LastCalls.{ended_last as ends_last}
use Rattle.chk_site.proofs.LastCalls.{last_of_both as last_then}
use Rattle.chk_salvage.specs.Front.{Item}
use Rattle.chk_cmd_salvage.specs.Lines.{AreLines}
use Rattle.chk_cmd_salvage.specs.Printing.{text_said}
use Rattle.chk_cmd_salvage.specs.Steps.{HasLine, OnlyPrints, Moves, Prints, PrintsItems, HasSaid}
use Rattle.chk_cmd_salvage.proofs.Texts.{text_of, text_then, theirs_silent, lines_more}

-- the print of a text
abbrev pub say_of : Who → List ℕ → Asked
say_of who text = asked who Say (text ∷ []) 0 0

acted_text : (who : Who) (text : List ℕ) (answer : ActAnswer) {added history : History} → Acted (say_of who text) answer added history
    → text_of added ≡ text_said (Says text) answer
acted_text who text answer {history = history} acted =
    subst (λ (a : History). text_of a ≡ text_said (Says text) answer) (sym acted.added_is)
    (ap (λ t. t ++ text_said (Says text) answer) (theirs_silent acted.others history acted.theirs))

failed_text : (who : Who) (text : List ℕ) {added history : History} → Calls (say_of who text) (Err Failed) added history → text_of added ≡ []
failed_text who text {added = added} {history = history} calls =
    let by : (b : Bool) → is_stopped history ≡ b → text_of added ≡ [] =
    λ b. elim b as (λ b. is_stopped history ≡ b → text_of added ≡ []) [
      | true ↦ λ e. ap text_of (calls.stopped e).0
      | false ↦ λ e. elim (calls.running e) [
        | inl acted ↦ acted_text who text (Refused Failed) acted
        | inr stopped ↦ acted_text who text (Stopped stopped.0) stopped.1
      ]
    ] in
    by (is_stopped history) refl

unmade_text : (who : Who) (text : List ℕ) {added history : History} → Calls (say_of who text) (Err NoMemory) added history → text_of added ≡ []
unmade_text who text {added = added} {history = history} calls =
    theirs_silent added history (ran (Err NoMemory) (λ e. cc) calls)

-- what a print says
print_moves : (who : Who) (text : List ℕ) (given : Result (Unit {0}) CallFault) (result : Result (Unit {0}) OutsideFault) {added history : History}
    → MatchResult result (λ _. IsDone given) (λ fault. Ends Say given fault) → MayFail given
    → Calls (say_of who text) (answered plain given) added history → Moves text [] result (text_of added)
print_moves who text (Ok value) (Ok v) {added = added} done may calls =
    append-nil (text_of added) ∙ acted_text who text (plain value) (ran (Ok (plain value)) (λ e. cc) calls)
print_moves who text (Ok value) (Err fault) done may calls = absurd done
print_moves who text (Err Failed) (Ok v) done may calls = absurd done
print_moves who text (Err Failed) (Err fault) done may calls = failed_text who text calls
print_moves who text (Err NoMemory) (Ok v) done may calls = absurd done
print_moves who text (Err NoMemory) (Err fault) done may calls = unmade_text who text calls
print_moves who text (Err Missing) result done may calls = absurd may
print_moves who text (Err Exists) result done may calls = absurd may
print_moves who text (Err (Short size)) result done may calls = absurd may

print_last : (who : Who) (text : List ℕ) (given : Result (Unit {0}) CallFault) (result : Result (Unit {0}) OutsideFault) {added history : History}
    → MatchResult result (λ _. IsDone given) (λ fault. Ends Say given fault)
    → Calls (say_of who text) (answered plain given) added history → LastFailed result added history
print_last who text given (Ok v) done calls = tt
print_last who text given (Err fault) done calls = ends_last (Unit {0}) plain given fault done calls

-- one print
pub print_told : (who : Who) (text : List ℕ) (given : Result (Unit {0}) CallFault) (result : Result (Unit {0}) OutsideFault) {old new : Option History}
    → length text ≤ 65536 → MatchResult result (λ _. IsDone given) (λ fault. Ends Say given fault) → MayFail given
    → Adds old new (Calls (say_of who text) (answered plain given)) → Adds old new (Prints who text [] result)
print_told who text given result few done may told =
    adds_as (Prints who text [] result) told
    (λ added history calls. record {
      moves = print_moves who text given result done may calls;
      acts =
          call_each (OnlyPrints who) (answered plain given) (λ before step theirs. inl theirs)
          (λ before answer files logs running honest. inr (record { own = refl; running = running; honest = honest; by = refl; text = text; says = refl; few = few }))
          calls;
      last = print_last who text given result done calls;
    })

-- what was put behind a buffer, and what of it was then said
said_then : (a b : History) (buffer line put after : List ℕ) → put ≡ buffer ++ line → text_of b ++ after ≡ put
    → (text_of a ++ buffer) ++ line ≡ text_of (b ++ a) ++ after
said_then a b buffer line put after behind moves =
    append_assoc (text_of a) buffer line ∙ ap (λ t. text_of a ++ t) (sym behind ∙ sym moves)
    ∙ sym (append_assoc (text_of a) (text_of b) after) ∙ ap (λ t. t ++ after) (sym (text_then b a))

-- one line more
pub said_more : (who : Who) (items left left' : List Item) (buffer put after : List ℕ) {old mid new : Option History}
    → Adds old mid (HasSaid who items left buffer) → HasLine left left' buffer put → Adds mid new (Prints who put after (Ok tt))
    → Adds old new (HasSaid who items left' after)
said_more who items left left' buffer put after so_far line told =
    adds_then (HasSaid who items left' after) so_far told
    (λ a b history p q. record {
      printed = p.printed ++ line.item ∷ [];
      split = p.split ∙ ap (λ l. p.printed ++ l) line.first ∙ sym (append_assoc p.printed (line.item ∷ []) left');
      lines =
          subst (AreLines (p.printed ++ line.item ∷ [])) (said_then a b buffer line.line put after line.behind q.moves)
          (lines_more p.printed line.item (text_of a ++ buffer) line.line p.lines line.is);
      acts = every_join (OnlyPrints who) b a history p.acts q.acts;
    })

silent_then : (a b : History) (buffer : List ℕ) → text_of b ≡ [] → text_of a ++ buffer ≡ text_of (b ++ a) ++ buffer
silent_then a b buffer none =
    ap (λ t. t ++ buffer) (sym (append-nil (text_of a)) ∙ ap (λ t. text_of a ++ t) (sym none) ∙ sym (text_then b a))

-- a print failed
pub said_failed : (who : Who) (items left : List Item) (buffer put after : List ℕ) (fault : OutsideFault) {old mid new : Option History}
    → Adds old mid (HasSaid who items left buffer) → Adds mid new (Prints who put after (Err fault))
    → Adds old new (PrintsItems who items (Err fault))
said_failed who items left buffer put after fault so_far told =
    adds_then (PrintsItems who items (Err fault)) so_far told
    (λ a b history p q. record {
      text = record {
        printed = p.printed;
        left = left;
        unsaid = buffer;
        split = p.split;
        lines = subst (AreLines p.printed) (silent_then a b buffer q.moves) p.lines;
      };
      acts = every_join (OnlyPrints who) b a history p.acts q.acts;
      last = last_then {T = Unit {0}} (Err fault) b a history q.last;
    })

-- there was no memory for a line
pub said_unmade : (who : Who) (items left : List Item) (buffer : List ℕ) {old new : Option History}
    → Adds old new (HasSaid who items left buffer) → Adds old new (PrintsItems who items (Err no_memory))
said_unmade who items left buffer so_far =
    adds_as (PrintsItems who items (Err no_memory)) so_far
    (λ a history p. record {
      text = record { printed = p.printed; left = left; unsaid = buffer; split = p.split; lines = p.lines };
      acts = p.acts;
      last = tt;
    })

all_said : (who : Who) (items left : List Item) (buffer put : List ℕ) (a b history : History) → left ≡ [] → put ≡ buffer
    → HasSaid who items left buffer a history → Moves put [] (Ok tt) (text_of b) → AreLines items (text_of (b ++ a))
all_said who items left buffer put a b history none same p moves =
    let whole : items ≡ p.printed = p.split ∙ ap (λ l. p.printed ++ l) none ∙ append-nil p.printed in
    let text : text_of a ++ buffer ≡ text_of (b ++ a) =
    ap (λ t. text_of a ++ t) (sym same ∙ sym moves ∙ append-nil (text_of b)) ∙ sym (text_then b a) in
    subst (λ (i : List Item). AreLines i (text_of (b ++ a))) (sym whole) (subst (AreLines p.printed) text p.lines)

-- the rest was printed, or not
pub said_last : (who : Who) (items left : List Item) (buffer put : List ℕ) (result : Result (Unit {0}) OutsideFault) {old mid new : Option History}
    → Adds old mid (HasSaid who items left buffer) → (left ≡ []) × (put ≡ buffer) → Adds mid new (Prints who put [] result)
    → Adds old new (PrintsItems who items result)
said_last who items left buffer put (Err fault) so_far end told = said_failed who items left buffer put [] fault so_far told
said_last who items left buffer put (Ok tt) so_far end told =
    adds_then (PrintsItems who items (Ok tt)) so_far told
    (λ a b history p q. record {
      text = all_said who items left buffer put a b history end.0 end.1 p q.moves;
      acts = every_join (OnlyPrints who) b a history p.acts q.acts;
      last = tt;
    })
