-- A reply that may be given may still be given after steps of others.
use Rattle.std.proofs.Common.{inl, inr, ℕ, List, ◌∷◌, Option, Some, None, sym, subst}
use Rattle.chk_site.specs.Acts.{Answers}
use Rattle.chk_site.specs.History.{Step, History}
use Rattle.chk_world.specs.Collectors.{View, Handling, CollectorRule, GoodAnswer, handling_of, view}
use Rattle.chk_world.specs.Rules.{Legal}
use Rattle.chk_world.specs.Places.{Foreign}
use Rattle.chk_world.proofs.Frames.{view_stays}
use Rattle.chk_world.proofs.PlacesStay.{Stays}
use Rattle.chk_sink.specs.States.{State, process}
use Rattle.chk_sink.proofs.Questions.{not_taken, length_left}
use Rattle.chk_sink.proofs.Quiet.{length_on, lengths_on}
use Rattle.chk_collector.specs.Answering.{MayAnswer}
use Rattle.chk_sink.proofs.HoldsStay.{holds_stay}

-- a reply that may be given may still be given after steps of others
good_stays : (stamped : List (List ℕ)) (s : State) (history : History) (step : Step) → Legal stamped history → Foreign stamped (process s) history step
    → (o : Option Handling) → (acks : _) → GoodAnswer (process s) history o acks → GoodAnswer (process s) (step ∷ history) o acks
good_stays stamped s history step legal f None acks good = good
good_stays stamped s history step legal f (Some m) acks (inl post) = inl post
good_stays stamped s history step legal f (Some m) acks (inr poll) = inr (record {
  stems = poll.stems;
  poll = poll.poll;
  lines = lengths_on (process s) m.taking history step
      (λ a. length_on (process s) m.taking history step a (not_taken s m.taking step f.other) (length_left stamped s history step a.stem legal f)) poll.stems acks poll.lines;
})

pub may_answer_stays : (stamped : List (List ℕ)) (s : State) (t : ℕ) (reply : List ℕ) → Stays stamped (process s) (MayAnswer s t reply)
may_answer_stays stamped s t reply history step legal f h = record {
  holds = holds_stay stamped s history step legal f h.holds;
  may =
      subst (λ (v : View). CollectorRule (process s) (step ∷ history) v (Answers t reply)) (sym (view_stays stamped (process s) history step f)) (
        h.may.0,
        λ body is.
            let good = h.may.1 body is in
            (good.0, good.1, good_stays stamped s history step legal f (handling_of t (view (process s) history).handled) good.0 good.2),
      );
}
