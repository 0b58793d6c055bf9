-- Where nothing is left and the mark says all, all of each sink under writing is committed.
use Rattle.std.proofs.Common.{◌≡◌, inl, inr, ℕ, Bool, true, false, ◌&&◌, List, length, Option, Some, None, Result, Ok, Err, ap, sym, subst, ◌∙◌, refl, arith, is_some, if◌then◌else◌}
use Rattle.std.specs.Prelude.{IsTrue, OnOk}
use Rattle.std.proofs.lemmas.Bool.{and_parts}
use Rattle.chk_bytes.specs.Numbers.{spelled}
use Rattle.chk_bytes.specs.Stems.{Stem, is_stem, same_stem}
use Rattle.chk_site.specs.declared.acts.Who.{Who}
use Rattle.chk_site.specs.Files.{File}
use Rattle.chk_site.specs.History.{History, files_after}
use Rattle.chk_world.specs.Committed.{OnFile, HasFile, IsAbsent, number_in, committed_of}
use Rattle.chk_world.specs.Laws.{IsOpenSink, wrote}
use Rattle.chk_world.specs.NamedEnds.{IsAllCommitted}
use Rattle.chk_world.specs.Names.{SinkFile, MarkFile, DoneFile, file}
use Rattle.chk_world.specs.Rules.{Legal}
use Rattle.chk_world.proofs.Law.{shape}
use Rattle.chk_world.proofs.NameTests.{stem_same}
use Rattle.chk_sink.specs.declared.fault.SinkFault.{SinkFault}
use Rattle.chk_sink.specs.declared.fault.SinkFault.TheVariants.{Outside, Damaged, Spent, NoMemory}
use Rattle.chk_sink.specs.Closes.{IsMarked, Ticked}
use Rattle.chk_sink.specs.Faults.{IsOutside}
use Rattle.chk_sink.specs.Held.{Holds, Matches}
use Rattle.chk_sink.specs.Starts.{IsFresh}
use Rattle.chk_sink.specs.States.{State, Writing, last_stem, ticked, ticked_state, is_closed_at, seen_first}
use Rattle.chk_sink.proofs.Holding.{writing_kept}
use Rattle.chk_collector_run.specs.Legality.{IsSettled, TurnEnds}
use Rattle.chk_collector_run.specs.Runs.{IsNoneOpen}

absent_on : (o : Option File) (P : File → Type 0) → IsAbsent o → OnFile o P
absent_on None P absent = tt
absent_on (Some f) P absent = absurd absent

-- the mark says all of the sink, so all of it is committed
committed_all : (written : List ℕ) (n : ℕ) (ended mark sink : Option File)
    → OnFile mark (λ m. OnFile ended (λ f. spelled m.bytes ≡ length f.bytes))
    → OnFile sink (IsOpenSink written (committed_of ended mark))
    → HasFile sink (λ f. length f.bytes ≡ n) → number_in mark ≡ n
    → OnFile sink (λ f. committed_of ended mark ≡ length f.bytes)
committed_all written n ended mark None within yet has is = tt
committed_all written n None mark (Some f) within yet has is = is ∙ sym has
committed_all written n (Some d) (Some m) (Some f) within yet has is = sym within ∙ (is ∙ sym has)
committed_all written n (Some d) None (Some f) within (inl none) has is = omega (
  arith,
  none,
  has,
  is,
)
committed_all written n (Some d) None (Some f) within (inr safe) has is =
    let most = safe.there in omega (arith, most, has, is)

module _ (stamped : List (List ℕ)) (s : State) (history : History) (legal : Legal stamped history)
    (holds : Holds s history) where
  of_last : IsTrue (is_stem (last_stem s)) → IsMarked s.current → (o : Writing) → s.current ≡ Some o
      → OnFile (file (files_after history) (SinkFile (last_stem s)))
      (λ f. committed_of (file (files_after history) (DoneFile (last_stem s))) (file (files_after
      history) (MarkFile (last_stem s))) ≡ length f.bytes)
  of_last good marked o some =
      let kept = writing_kept s o some history holds in
      let all : o.marked ≡ o.size = subst IsMarked some marked in
      let law = shape stamped history legal (last_stem s) good in
      committed_all (wrote (last_stem s) history) o.size (file (files_after history) (DoneFile
      (last_stem s)))
      (file (files_after history) (MarkFile (last_stem s))) (file (files_after history) (SinkFile
      (last_stem s)))
      law.mark_of_done law.under_writing kept.size (kept.marked ∙ all)

  pub all_committed : IsSettled s → IsAllCommitted s.collector (files_after history)
  all_committed settled x good own = by (is_some s.current && same_stem x (last_stem s)) refl
    where
      P : Stem → Type 0
      P y = OnFile (file (files_after history) (SinkFile y))
          (λ f. committed_of (file (files_after history) (DoneFile y)) (file (files_after history)
          (MarkFile y)) ≡ length f.bytes)

      some_writing : (k : Option Writing) → is_some k ≡ true → s.current ≡ k → x ≡ last_stem s → P x
      some_writing None some e is = absurd (let z : ⊥ = cc in z)
      some_writing (Some o) some e is =
          subst P (sym is) (of_last (subst (λ y. IsTrue (is_stem y)) is good) settled.marked o e)

      by : (b : Bool) → (is_some s.current && same_stem x (last_stem s)) ≡ b → P x
      by false e = absent_on _ _ (holds.tidy settled.none_left x (record {
        own = own;
        stem = good;
        other = e;
      })).0
      by true e =
          let p = and_parts (is_some s.current) (same_stem x (last_stem s)) e in
          some_writing s.current p.0 refl (stem_same x (last_stem s) p.1)

  -- where none is written to, none is under writing
  pub none_open : s.abandoned ≡ false → s.current ≡ None
      → IsNoneOpen s.collector (files_after history)
  none_open none_left none x good own =
      (holds.tidy none_left x (record {
        own = own;
        stem = good;
        other = ap (λ k. is_some k && same_stem x (last_stem s)) none;
      })).0

-- ---- which states are settled

pub fresh_settled : (who : Who) (ms : ℕ) (s : State) → IsFresh who ms s → IsSettled s
fresh_settled who ms s fresh = record {
  none_left = fresh.abandoned;
  marked = subst IsMarked (sym
      fresh.current) tt;
}

pub ticked_settled : (now : ℕ) (s : State) → IsSettled (ticked_state now s)
ticked_settled now s = record { none_left = refl; marked = go s.current }
  where
    by : (o : Writing) (b : Bool)
        → IsMarked (if b then None else Some (record {
          size = o.size;
          sync_end = o.sync_end;
          marked
              = o.size;
          seen = Some (seen_first o.seen now);
        }))
    by o true = tt
    by o false = refl

    go : (k : Option Writing) → IsMarked (ticked s.rotate now k)
    go None = tt
    go (Some o) = by o (is_closed_at s.rotate now o)

-- ---- what a tick leaves

pub tick_ends : (stamped : List (List ℕ)) (s t : State) (result : Result (Unit {0}) SinkFault)
    → OnOk result (IsSettled t) → (h : History)
    → Ticked stamped s t result h → TurnEnds stamped t result h
tick_ends stamped s t (Ok value) settled h x = record {
  legal = x.legal;
  may_act = x.may_act;
  alive = λ r. record {
    holds = (x.alive r).holds;
    committed = all_committed stamped t h x.legal
        (x.alive r).holds settled;
  };
}
tick_ends stamped s t (Err (Outside call)) settled h x = record {
  legal = x.legal;
  may_act =
      x.may_act;
  alive = λ r. (x.alive r).holds;
}
tick_ends stamped s t (Err (Damaged name at)) settled h x =
    record { legal = x.legal; may_act = x.may_act; alive = λ r. (x.alive r).sound name at refl }
tick_ends stamped s t (Err (Spent born)) settled h x = record {
  legal = x.legal;
  may_act =
      x.may_act;
  alive = λ r. (x.alive r).holds;
}
tick_ends stamped s t (Err NoMemory) settled h x = record {
  legal = x.legal;
  may_act = x.may_act;
  alive = λ r. (x.alive r).holds;
}

-- a turn that ended for a failed call or want of memory
pub outside_ends : (stamped : List (List ℕ)) (t : State) (fault : SinkFault) → IsOutside fault
    → (h : History) → Matches stamped t h
    → TurnEnds stamped t (Err fault) h
outside_ends stamped t (Outside call) only h x = x
outside_ends stamped t (Damaged name at) only h x = absurd only
outside_ends stamped t (Spent born) only h x = absurd only
outside_ends stamped t NoMemory only h x = x
