-- A committed length is there only after the append that it tells of.
use Rattle.std.proofs.Common.{◌≡◌, inl, inr, ℕ, ◌≤◌, ◌<◌, Bool, true, false, List, [], ◌∷◌, ◌++◌, length, length-append, Option, Some, None, option_map, refl, ap, sym, subst, ◌∙◌, arith, if◌then◌else◌}
use Rattle.std.specs.Prelude.{IsTrue}
use Rattle.chk_bytes.specs.Stems.{Stem, is_stem, same_stem}
use Rattle.chk_site.specs.declared.acts.ActAnswer.{ActAnswer}
use Rattle.chk_site.specs.declared.acts.ActAnswer.TheVariants.{Done, Refused, Stopped, Rotated, Deleted}
use Rattle.chk_site.specs.Files.{File, Files, Change, Grown, grown, changed}
use Rattle.chk_site.specs.Acts.{Deed, Appends, deed, change_of, same_who, Did}
use Rattle.chk_site.specs.Effect.{UnsyncedTails}
use Rattle.chk_site.specs.History.{Step, History, Ever, files_after}
use Rattle.chk_world.specs.Names.{Name, SinkFile, BornFile, MarkFile, DoneFile, CheckFile, BookFile, SegmentFile, Temporary, OtherFile, read, spell, file}
use Rattle.chk_world.specs.Committed.{OnFile, HasFile, committed_length}
use Rattle.chk_world.specs.Collectors.{Current, IsCurrent, IsNextPiece, AppendsOnlyToCleanSink, CollectorRule, view}
use Rattle.chk_world.specs.Rules.{Legal}
use Rattle.chk_world.specs.Laws.{collector, wrote, written_by, piece_to, Wrote, EndsPastCommitted}
use Rattle.chk_world.proofs.NameTests.{same_name, stem_same, named_test, name_self}
use Rattle.chk_world.proofs.Invariant.{current_of}
use Rattle.chk_world.proofs.OwnSteps.{Known, known_stem}
use Rattle.chk_world.proofs.Others.{others_write}
use Rattle.chk_world.proofs.Law.{InvAfter, holds_always, who_same, shape, its_rule}

-- what was ever committed was written before
pub below : (stamped : List (List ℕ)) (history : History) → Legal stamped history → (x : Stem) → IsTrue (is_stem x) → (n : ℕ)
    → Ever (λ front. n ≤ committed_length (files_after front) x) history → n ≤ length (wrote x history)
below stamped [] legal x is n e = let s = (shape stamped [] legal x is).committed in omega (arith, e, s)
below stamped (step ∷ history) legal x is n (inl e) = let s = (shape stamped (step ∷ history) legal x is).committed in omega (arith, e, s)
below stamped (step ∷ history) legal x is n (inr e) =
    let h = below stamped history legal.0 x is n e in
    omega (arith, h, length-append (wrote x history) (written_by x (deed step.act) step.act.answer))

-- an append of which something was written to x was done, and was to x
pub record IsAppend (x : Stem) (call : Deed) (answer : ActAnswer) : Type 0 where
  pub word : List ℕ
  pub piece : List ℕ
  pub words : List (List ℕ)
  pub number : ℕ
  pub of : ℕ
  pub call_is : call ≡ Appends word piece
  pub answer_is : answer ≡ Done words number of
  pub name_is : read word ≡ SinkFile x

sink_is : (x : Stem) (n : Name) (piece : List ℕ) → 0 < length (piece_to x n piece) → n ≡ SinkFile x
sink_is x (SinkFile y) piece h = go (same_stem x y) refl h
  where
    go : (b : Bool) → same_stem x y ≡ b → 0 < length (if b then piece else []) → SinkFile y ≡ SinkFile x
    go true e k = ap SinkFile (sym (stem_same x y e))
    go false e k = absurd (let z : ⊥ = omega (arith, k) in z)
sink_is x (BornFile c) piece h = absurd (let z : ⊥ = omega (arith, h) in z)
sink_is x (MarkFile y) piece h = absurd (let z : ⊥ = omega (arith, h) in z)
sink_is x (DoneFile y) piece h = absurd (let z : ⊥ = omega (arith, h) in z)
sink_is x (CheckFile c) piece h = absurd (let z : ⊥ = omega (arith, h) in z)
sink_is x (BookFile f) piece h = absurd (let z : ⊥ = omega (arith, h) in z)
sink_is x (SegmentFile f k) piece h = absurd (let z : ⊥ = omega (arith, h) in z)
sink_is x (Temporary n) piece h = absurd (let z : ⊥ = omega (arith, h) in z)
sink_is x (OtherFile w) piece h = absurd (let z : ⊥ = omega (arith, h) in z)

pub is_append : (x : Stem) (call : Deed) (answer : ActAnswer) → 0 < length (written_by x call answer) → IsAppend x call answer
is_append x (Appends w piece) (Done words number of) h =
    record { word = w; piece = piece; words = words; number = number; of = of; call_is = refl; answer_is = refl; name_is = sink_is x (read w) piece h }
is_append x call answer h = absurd (let z : ⊥ = omega (arith, h) in z)

-- the sink's file after the append
grown_file : (x : Stem) (known : Known x) (w piece : List ℕ) (before after : Files) → read w ≡ SinkFile x
    → ((n : List ℕ) → after n ≡ changed (Grown w piece) before n) → file after (SinkFile x) ≡ option_map (grown piece) (file before (SinkFile x))
grown_file x known w piece before after is e =
    e (spell (SinkFile x))
    ∙ ap (λ b. if b then option_map (grown piece) (file before (SinkFile x)) else file before (SinkFile x))
    (named_test (SinkFile x) known.stem w ∙ (ap (same_name (SinkFile x)) is ∙ name_self (SinkFile x)))

pub done_tails : (call : Deed) (answer : ActAnswer) (words : List (List ℕ)) (number of : ℕ) (did : Change) (before after : Files) → answer ≡ Done words number of
    → Did call answer did → UnsyncedTails call answer (changed did before) after → (n : List ℕ) → after n ≡ changed (change_of call) before n
done_tails call (Done words' number' of') words number of did before after is may tails n = tails n ∙ ap (λ d. changed d before n) may
done_tails call (Refused fault) words number of did before after is may tails n = absurd (not_done is)
  where
    not_done : ◌≡◌ {A = ActAnswer} (Refused fault) (Done words number of) → ⊥
    not_done e = cc
done_tails call (Stopped left) words number of did before after is may tails n = absurd (not_done is)
  where
    not_done : ◌≡◌ {A = ActAnswer} (Stopped left) (Done words number of) → ⊥
    not_done e = cc
done_tails call (Rotated suffix) words number of did before after is may tails n = absurd (not_done is)
  where
    not_done : ◌≡◌ {A = ActAnswer} (Rotated suffix) (Done words number of) → ⊥
    not_done e = cc
done_tails call (Deleted suffix) words number of did before after is may tails n = absurd (not_done is)
  where
    not_done : ◌≡◌ {A = ActAnswer} (Deleted suffix) (Done words number of) → ⊥
    not_done e = cc

-- the piece that was appended is one that may come next
pub record WritesNext (x : Stem) (history : History) (piece : List ℕ) : Type 0 where
  pub cur : Current
  pub is : cur.stem ≡ x
  pub next : IsNextPiece (view (collector x) history).handled cur (length (wrote x history)) piece

module _ (stamped : List (List ℕ)) (history : History) (step : Step) (legal : Legal stamped (step ∷ history)) (x : Stem) (is : IsTrue (is_stem x))
    (some : Wrote x step) where
  known : Known x
  known = known_stem x is

  inv : InvAfter x history
  inv = holds_always x (known_stem x is) stamped history legal.0

  a : IsAppend x (deed step.act) step.act.answer
  a = is_append x (deed step.act) step.act.answer some

  past : length (wrote x history ++ written_by x (deed step.act) step.act.answer) ≤ length (wrote x history) → ⊥
  past h = omega (arith, h, some, length-append (wrote x history) (written_by x (deed step.act) step.act.answer))

  own : (b : Bool) → same_who (collector x) step.act.who ≡ b → step.act.who ≡ collector x
  own true e = sym (who_same (collector x) step.act.who e)
  own false e =
      absurd (let n = others_write x step.act.who e (deed step.act) step.act.answer (files_after history) legal.1.own_files in
      let z : ⊥ = omega (arith, some, ap length n) in z)

  held : (o : Option File) → HasFile o (λ f. IsCurrent (view (collector x) history).current x (λ cur. IsNextPiece (view (collector x) history).handled cur (length f.bytes) a.piece))
      → file (files_after history) (SinkFile x) ≡ o → OnFile o (λ f. f.bytes ≡ wrote x history)
  held None h e = absurd h
  held (Some f) h e =
      let c = current_of (view (collector x) history).current x h in
      subst (λ o. OnFile o (λ f. f.bytes ≡ wrote x history)) e (inv.holds c.0 c.1 c.2)

  next_at : (o : Option File) → HasFile o (λ f. IsCurrent (view (collector x) history).current x (λ cur. IsNextPiece (view (collector x) history).handled cur (length f.bytes) a.piece))
      → OnFile o (λ f. f.bytes ≡ wrote x history) → WritesNext x history a.piece
  next_at None h same = absurd h
  next_at (Some f) h same =
      let c = current_of (view (collector x) history).current x h in
      record { cur = c.0; is = c.2; next = subst (λ n. IsNextPiece (view (collector x) history).handled c.0 n a.piece) (ap length same) c.3 }

  rule : AppendsOnlyToCleanSink (view (collector x) history) (files_after history) (SinkFile x) a.piece
  rule =
      subst (λ n. AppendsOnlyToCleanSink (view (collector x) history) (files_after history) n a.piece) a.name_is
      (subst (λ c. CollectorRule (collector x) history (view (collector x) history) c) a.call_is
      (its_rule x known history step inv stamped (own (same_who (collector x) step.act.who) refl) legal.1.rule))

  after_is : file step.files (SinkFile x) ≡ option_map (grown a.piece) (file (files_after history) (SinkFile x))
  after_is =
      let e = legal.1.honest.modelled.effect in
      grown_file x known a.word a.piece (files_after history) step.files a.name_is
      (λ n. done_tails (deed step.act) step.act.answer a.words a.number a.of e.did (files_after history) step.files a.answer_is e.may e.files_left n
      ∙ ap (λ c. changed (change_of c) (files_after history) n) a.call_is)

  longer : (o : Option File) → OnFile o (λ f. f.bytes ≡ wrote x history) → OnFile (option_map (grown a.piece) o) (λ f. length f.bytes ≡ length (wrote x history ++ a.piece))
  longer None h = tt
  longer (Some f) h = ap (λ b. length (b ++ a.piece)) h

  written_is : written_by x (deed step.act) step.act.answer ≡ a.piece
  written_is =
      ap (λ c. written_by x c step.act.answer) a.call_is ∙ (ap (written_by x (Appends a.word a.piece)) a.answer_is
      ∙ (ap (λ n. piece_to x n a.piece) a.name_is ∙ ap (λ b. if b then a.piece else []) (name_self (SinkFile x))))

  ends : OnFile (file step.files (SinkFile x)) (λ f. length f.bytes ≡ length (wrote x (step ∷ history)))
  ends =
      subst (λ o. OnFile o (λ f. length f.bytes ≡ length (wrote x history ++ written_by x (deed step.act) step.act.answer))) (sym after_is)
      (subst (λ p. OnFile (option_map (grown a.piece) (file (files_after history) (SinkFile x))) (λ f. length f.bytes ≡ length (wrote x history ++ p))) (sym written_is)
      (longer (file (files_after history) (SinkFile x)) (held (file (files_after history) (SinkFile x)) rule refl)))

  pub writes_next : WritesNext x history (written_by x (deed step.act) step.act.answer)
  writes_next =
      subst (WritesNext x history) (sym written_is)
      (next_at (file (files_after history) (SinkFile x)) rule (held (file (files_after history) (SinkFile x)) rule refl))

  longer_there : (o : Option File) → HasFile o (λ f. IsCurrent (view (collector x) history).current x (λ cur. IsNextPiece (view (collector x) history).handled cur (length f.bytes) a.piece))
      → OnFile o (λ f. f.bytes ≡ wrote x history) → HasFile (option_map (grown a.piece) o) (λ f. length f.bytes ≡ length (wrote x history ++ a.piece))
  longer_there None h same = h
  longer_there (Some f) h same = ap (λ b. length (b ++ a.piece)) same

  -- the sink is there, as long as what was written
  pub appended_there : HasFile (file step.files (SinkFile x)) (λ f. length f.bytes ≡ length (wrote x (step ∷ history)))
  appended_there =
      subst (λ o. HasFile o (λ f. length f.bytes ≡ length (wrote x history ++ written_by x (deed step.act) step.act.answer))) (sym after_is)
      (subst (λ p. HasFile (option_map (grown a.piece) (file (files_after history) (SinkFile x))) (λ f. length f.bytes ≡ length (wrote x history ++ p))) (sym written_is)
      (longer_there (file (files_after history) (SinkFile x)) rule (held (file (files_after history) (SinkFile x)) rule refl)))

  pub ends_past : EndsPastCommitted history step x
  ends_past = record { end = ends; before = λ e. past (below stamped history legal.0 x is (length (wrote x (step ∷ history))) e) }
