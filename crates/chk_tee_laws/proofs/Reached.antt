-- What is appended to a sink lies above all that its collector appended before.
use Rattle.std.proofs.Common.{◌≡◌, ◌⊎◌, inl, inr, ℕ, ◌≤◌, ◌<◌, Bool, true, false, List, [], ◌∷◌, length, length-append, Option, Some, None, ap, sym, subst, ◌∙◌, refl, arith, if◌then◌else◌}
use Rattle.std.specs.Prelude.{IsTrue}
use Rattle.chk_bytes.specs.Stems.{Stem, is_stem}
use Rattle.chk_site.specs.declared.acts.Role.TheVariants.{Collector}
use Rattle.chk_site.specs.declared.acts.ActAnswer.TheVariants.{Done}
use Rattle.chk_site.specs.Files.{File}
use Rattle.chk_site.specs.Acts.{Appends, deed, same_who}
use Rattle.chk_site.specs.History.{Step, History, files_after}
use Rattle.chk_world.specs.Names.{SinkFile, BornFile, read, spell, file}
use Rattle.chk_world.specs.Committed.{HasFile, number_in}
use Rattle.chk_world.specs.Collectors.{View, IsCurrent, IsNextPiece, AppendsOnlyToCleanSink, CollectorRule, size_in, view}
use Rattle.chk_world.specs.Rules.{Legal}
use Rattle.chk_world.specs.Laws.{collector, wrote, written_by, piece_to, Wrote}
use Rattle.chk_world.proofs.Ends.{bytes_same}
use Rattle.chk_world.proofs.NameTests.{same_name, name_self, named_test}
use Rattle.chk_world.proofs.Invariant.{IsUnused, current_of}
use Rattle.chk_world.proofs.Own.{seen}
use Rattle.chk_world.proofs.OwnSteps.{known_stem}
use Rattle.chk_world.proofs.Others.{others_write}
use Rattle.chk_world.proofs.Law.{InvAfter, holds_always, who_same, its_rule}
use Rattle.chk_world.proofs.AppendsKept.{known_sink}
use Rattle.chk_world.proofs.Commits.{appended_there}
use Rattle.chk_tee_sender.specs.Sieves.{mark_of}
use Rattle.chk_tee_sender.specs.declared.sieve.Mark.{Mark}
use Rattle.chk_tee_laws.specs.Passed.{IsAbove}
use Rattle.chk_tee_laws.proofs.Named.{IsNewest, current_is_newest}
use Rattle.chk_world.proofs.AppendsStand.{size_is}

-- so much was written to this sink of the collector
pub record IsReached (name : List ℕ) (history : History) (m : Mark) : Type 0 where
  pub of : m.stem.collector ≡ name
  pub known : IsTrue (is_stem m.stem)
  pub some : 0 < m.offset
  pub within : m.offset ≤ length (wrote m.stem history)

-- and so it stays
pub reached_stays : (name : List ℕ) (history : History) (step : Step) (m : Mark)
    → IsReached name history m → IsReached name (step ∷ history) m
reached_stays name history step m r = record {
  of = r.of;
  known = r.known;
  some = r.some;
  within = omega (
    arith,
    r.within,
    length-append (wrote m.stem history)
        (written_by m.stem (deed step.act) step.act.answer),
  );
}

module _ (stamped : List (List ℕ)) (history : History) (step : Step)
    (legal : Legal stamped (step ∷ history)) (word piece : List ℕ)
    (words : List (List ℕ)) (number of : ℕ) (call_is : deed step.act ≡ Appends word piece)
    (answer_is : step.act.answer ≡ Done words number of)
    (x : Stem) (name_is : read word ≡ SinkFile x) (some : 0 < length piece) where
  pub known : IsTrue (is_stem x)
  known = known_sink word x name_is

  wrote_piece : written_by x (deed step.act) step.act.answer ≡ piece
  wrote_piece =
      ap (λ call. written_by x call step.act.answer) call_is
      ∙ (ap (written_by x (Appends word piece)) answer_is
      ∙ (ap (λ n. piece_to x n piece) name_is
      ∙ ap (λ b. if b then piece else []) (name_self (SinkFile x))))

  pub wrote_some : Wrote x step
  wrote_some = subst (λ p. 0 < length p) (sym wrote_piece) some

  pub grows : length (wrote x history) < length (wrote x (step ∷ history))
  grows = omega (
    arith,
    wrote_some,
    length-append (wrote x history)
        (written_by x (deed step.act) step.act.answer),
  )

  same_file : step.files word ≡ file step.files (SinkFile x)
  same_file =
      ap step.files (sym (bytes_same (spell (SinkFile x)) word
      (named_test (SinkFile x) (known_stem x known).stem word
      ∙ (ap (same_name (SinkFile x)) name_is ∙ name_self (SinkFile x)))))

  pub end_is : size_in (step.files word) ≡ length (wrote x (step ∷ history))
  end_is =
      ap size_in same_file
      ∙ size_is (file step.files (SinkFile x)) (length (wrote x (step ∷ history)))
      (appended_there stamped history step legal x known wrote_some)

  -- the collector of the sink appended it
  pub own : step.act.who ≡ collector x
  own = go (same_who (collector x) step.act.who) refl
    where
      go : (b : Bool) → same_who (collector x) step.act.who ≡ b → step.act.who ≡ collector x
      go true e = sym (who_same (collector x) step.act.who e)
      go false e =
          let n = others_write x step.act.who e (deed step.act) step.act.answer
          (files_after history) legal.1.own_files in
          absurd (let z : ⊥ = omega (arith, wrote_some, ap length n) in z)

  rule : AppendsOnlyToCleanSink (view (collector x) history) (files_after history) (SinkFile x)
      piece
  rule =
      subst (λ n. AppendsOnlyToCleanSink (view (collector x) history) (files_after history) n
      piece) name_is
      (subst (CollectorRule (collector x) history (view (collector x) history)) call_is
      (its_rule x (known_stem x known) history step
      (holds_always x (known_stem x known) stamped history legal.0) stamped own legal.1.rule))

  newest : IsNewest (view (collector x) history).born (view (collector x) history).made x
  newest = go (file (files_after history) (SinkFile x)) rule
    where
      v : View
      v = view (collector x) history

      go : (o : Option File) → HasFile o
          (λ f. IsCurrent v.current x (λ cur. IsNextPiece v.handled cur (length f.bytes) piece))
          → IsNewest v.born v.made x
      go None h = absurd h
      go (Some f) h =
          let c = current_of v.current x h in
          subst (IsNewest v.born v.made) c.2
          (current_is_newest stamped history legal.0 (collector x) refl c.0 c.1)

  -- what was written before lies below
  pub above : (m : Mark) → IsReached x.collector history m
      → IsAbove m (mark_of x (length (wrote x (step ∷ history))))
  above m r = by_born (compared m.stem.born x.born)
    where
      y : Stem
      y = m.stem

      inv : InvAfter y history
      inv = holds_always y (known_stem y r.known) stamped history legal.0

      same_view : view (collector y) history ≡ view (collector x) history
      same_view = ap (λ c. view (record { role = Collector; name = c }) history) r.of

      used : IsUnused y (seen (view (collector y) history) (wrote y history))
          (file (files_after history) (BornFile y.collector)) → ⊥
      used u = omega (arith, r.some, r.within, ap length (inv.unwritten u))

      born_is : number_in (file (files_after history) (BornFile y.collector)) ≡ x.born
      born_is = inv.born_is x.born (ap (λ v. v.born) same_view ∙ newest.born_is)

      compared : (a b : ℕ) → (a < b) ⊎ ((a ≡ b) ⊎ (b < a))
      compared a b = grind arith

      same_sink : y.born ≡ x.born → y.number ≡ x.number → y ≡ x
      same_sink e k = λ i. record { collector = r.of i; born = e i; number = k i }

      by_number : y.born ≡ x.born → (y.number < x.number)
          ⊎ ((y.number ≡ x.number) ⊎ (x.number < y.number))
          → IsAbove m (mark_of x (length (wrote x (step ∷ history))))
      by_number e (inl less) = inr (e, inl less)
      by_number e (inr (inl k)) =
          inr (
            e,
            inr (
              k,
              omega (
                arith,
                r.within,
                grows,
                ap (λ z. length (wrote z history))
                    (same_sink e k),
              ),
            ),
          )
      by_number e (inr (inr more)) =
          absurd (used (inr (
            ap (λ v. v.born) same_view ∙ (newest.born_is ∙ ap Some (sym e)),
            omega (arith, more, newest.made_is, ap (λ v. v.made) same_view),
          )))

      by_born : (y.born < x.born) ⊎ ((y.born ≡ x.born) ⊎ (x.born < y.born))
          → IsAbove m (mark_of x (length (wrote x (step ∷ history))))
      by_born (inl less) = inl less
      by_born (inr (inl e)) = by_number e (compared y.number x.number)
      by_born (inr (inr more)) = absurd (used (inl (omega (arith, more, born_is))))
