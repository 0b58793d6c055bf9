-- A step that leaves a sink alone leaves its files, and what is known of its committed length.
use Rattle.std.proofs.Common.{◌≡◌, inr, ℕ, ◌≤◌, Bool, true, false, ◌&&◌, not, List, [], ◌∷◌, ◌++◌, None, ap, sym, subst, ◌∙◌, refl, true≢false, if◌then◌else◌, bytes_eq}
use Rattle.std.specs.Prelude.{IsTrue, MatchBool}
use Rattle.std.specs.List.{list_any}
use Rattle.std.proofs.lemmas.Bool.{and_parts, not-true, or_from, or_parts}
use Rattle.chk_bytes.specs.Stems.{Stem}
use Rattle.chk_site.specs.declared.acts.Who.{Who}
use Rattle.chk_site.specs.declared.acts.ActAnswer.{ActAnswer}
use Rattle.chk_site.specs.declared.acts.ActAnswer.TheVariants.{Stopped}
use Rattle.chk_site.specs.declared.lists.Left.{Left}
use Rattle.chk_site.specs.Acts.{Deed, Creates, Appends, Syncs, Renames, Removes, Cuts, AsksSize, Reads, deed, touches, tail_of, tail_in}
use Rattle.chk_site.specs.History.{Step, History, Modelled, files_after, is_by}
use Rattle.chk_site.proofs.Stays.{unnamed_stays}
use Rattle.chk_http_grammar.specs.Messages.{Ack, ack_of}
use Rattle.chk_world.specs.Names.{Name, read, spell, file, is_known}
use Rattle.chk_world.specs.Committed.{committed_length}
use Rattle.chk_world.specs.Collectors.{SinceTaking, is_taking, is_file_of, changes_sink, names_sink, stop_names_sink, leaves_sink, was_refused, is_quiet, IsCommittedLength, CommittedLengths}
use Rattle.chk_world.proofs.Ends.{bytes_same}
use Rattle.chk_world.proofs.NameLemmas.{read-spell}

-- a text that is read as none of the sink's files is the name of none
apart : (x : Stem) (n : Name) → IsTrue (is_known n) → is_file_of x n ≡ true → (w : List ℕ) → is_file_of x (read w) ≡ false
    → bytes_eq (spell n) w ≡ false
apart x n known own w other = go (bytes_eq (spell n) w) refl
  where
    go : (b : Bool) → bytes_eq (spell n) w ≡ b → b ≡ false
    go true e = absurd (true≢false (sym own ∙ (ap (is_file_of x) (sym (read-spell n known) ∙ ap read (bytes_same (spell n) w e)) ∙ other)))
    go false e = refl

module _ (x : Stem) (n : Name) (known : IsTrue (is_known n)) (own : is_file_of x n ≡ true) where
  untouched : (call : Deed) → changes_sink x call ≡ false → touches call (spell n) ≡ false
  untouched (Creates w) e = apart x n known own w e
  untouched (Appends w piece) e = apart x n known own w e
  untouched (Syncs w) e = apart x n known own w e
  untouched (Renames old new) e =
      let p = or_parts (is_file_of x (read old)) (is_file_of x (read new)) e in
      or_from (bytes_eq (spell n) new) (bytes_eq (spell n) old) (apart x n known own new p.1) (apart x n known own old p.0)
  untouched (Removes w) e = apart x n known own w e
  untouched (Cuts w k) e = apart x n known own w e
  untouched call e = refl

  no_tail : (left : List Left) → list_any (λ l. is_file_of x (read l.name)) left ≡ false → tail_of left (spell n) ≡ None
  no_tail [] e = refl
  no_tail (l ∷ left) e =
      let p = or_parts (is_file_of x (read l.name)) (list_any (λ l. is_file_of x (read l.name)) left) e in
      rw (apart x n known own l.name p.0) (no_tail left p.1)

  tail_none : (answer : ActAnswer) → stop_names_sink x answer ≡ false → tail_in answer (spell n) ≡ None
  tail_none (Stopped left) e = no_tail left e
  tail_none answer e = refl

  changes_named : (call : Deed) → names_sink x call ≡ false → changes_sink x call ≡ false
  changes_named (AsksSize w) e = refl
  changes_named (Reads w at max) e = refl
  changes_named call e = e

  -- a step of another process
  pub file_left : (who : Who) (history : History) (step : Step) → Modelled history step → is_by who step ≡ false
      → leaves_sink who x step ≡ true → file step.files n ≡ file (files_after history) n
  file_left who history step modelled other left =
      let p = and_parts (not (stop_names_sink x step.act.answer))
      (not (if is_by who step then changes_sink x (deed step.act) && not (was_refused step.act.answer) else names_sink x (deed step.act))) left in
      let named : not (names_sink x (deed step.act)) ≡ true =
      subst (λ b. not (if b then changes_sink x (deed step.act) && not (was_refused step.act.answer) else names_sink x (deed step.act)) ≡ true) other p.1 in
      unnamed_stays history step (spell n) modelled
      (untouched (deed step.act) (changes_named (deed step.act) (not-true (names_sink x (deed step.act)) named)))
      (tail_none step.act.answer (not-true (stop_names_sink x step.act.answer) p.0))

-- a sink is quiet only where it was so before
pub quiet_on : (who : Who) (x : Stem) (t : ℕ) (history : History) (step : Step) → is_taking who t step ≡ false
    → is_quiet who x t (step ∷ history) ≡ true → (leaves_sink who x step ≡ true) × (is_quiet who x t history ≡ true)
quiet_on who x t history step not_taken e =
    and_parts (leaves_sink who x step) (is_quiet who x t history)
    (subst (λ b. (if b then true else leaves_sink who x step && is_quiet who x t history) ≡ true) not_taken e)

since_on : (who : Who) (t : ℕ) (P : History → Type 0) (history : History) (step : Step) → is_taking who t step ≡ false
    → SinceTaking who t P history → SinceTaking who t P (step ∷ history)
since_on who t P history step not_taken h = inr (subst (λ b. MatchBool b ⊥ (SinceTaking who t P history)) (sym not_taken) h)

-- the length of one sink
pub length_on : (who : Who) (t : ℕ) (history : History) (step : Step) (a : Ack) → is_taking who t step ≡ false
    → (leaves_sink who a.stem step ≡ true → committed_length step.files a.stem ≡ committed_length (files_after history) a.stem)
    → IsCommittedLength who history t a → IsCommittedLength who (step ∷ history) t a
length_on who t history step a not_taken same h = record {
  at_most = since_on who t (λ front. a.number ≤ committed_length (files_after front) a.stem) history step not_taken h.at_most;
  just = λ q. let p = quiet_on who a.stem t history step not_taken q in h.just p.1 ∙ sym (same p.0);
}

-- the lengths of all that were asked
pub lengths_on : (who : Who) (t : ℕ) (history : History) (step : Step)
    → ((a : Ack) → IsCommittedLength who history t a → IsCommittedLength who (step ∷ history) t a) → (stems : List Stem) (acks : List Ack)
    → CommittedLengths who history t stems acks → CommittedLengths who (step ∷ history) t stems acks
lengths_on who t history step one [] [] h = tt
lengths_on who t history step one (x ∷ stems) (a ∷ acks) h = (h.0, one a h.1, lengths_on who t history step one stems acks h.2)
lengths_on who t history step one [] (a ∷ acks) h = absurd h
lengths_on who t history step one (x ∷ stems) [] h = absurd h

-- one more
pub lengths_add : (who : Who) (t : ℕ) (history : History) (x : Stem) (n : ℕ) → IsCommittedLength who history t (ack_of x n) → (stems : List Stem) (acks : List Ack)
    → CommittedLengths who history t stems acks → CommittedLengths who history t (stems ++ x ∷ []) (acks ++ ack_of x n ∷ [])
lengths_add who t history x n one [] [] h = (refl, one, tt)
lengths_add who t history x n one (y ∷ stems) (a ∷ acks) h = (h.0, h.1, lengths_add who t history x n one stems acks h.2)
lengths_add who t history x n one [] (a ∷ acks) h = absurd h
lengths_add who t history x n one (y ∷ stems) [] h = absurd h
