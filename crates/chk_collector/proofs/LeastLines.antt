-- The lines of a poll's reply are at least what stays committed.
use Rattle.std.proofs.Common.{◌≡◌, ℕ, ◌≤◌, List, [], ◌∷◌, ◌++◌, Option, sym, subst, arith}
use Rattle.chk_bytes.specs.Stems.{Stem}
use Rattle.chk_site.specs.declared.acts.Who.{Who}
use Rattle.chk_site.specs.History.{History, files_after}
use Rattle.chk_site.specs.Site.{Adds}
use Rattle.chk_site.proofs.Runs.{adds_both, adds_none, adds_then}
use Rattle.chk_http_grammar.specs.Messages.{Ack, IsPostOf, ack_of}
use Rattle.chk_http_grammar.proofs.Accepted.{never_both}
use Rattle.chk_chunk.specs.Keys.{Chunk}
use Rattle.chk_world.specs.Committed.{committed_length}
use Rattle.chk_sink.specs.Least.{AtLeast, EachFront, StaysReached}
use Rattle.chk_sink.specs.States.{State, process}
use Rattle.chk_sink.proofs.LeastLengths.{early, late}
use Rattle.chk_collector.specs.Least.{LineIsLeast, LinesAreLeast, TellLeast}
use Rattle.chk_collector.specs.Outcomes.{Lines, OutcomeLeast}

-- no bytes are committed of each sink
none_reached : (y : Stem) (added history : History)
    → EachFront (λ h. 0 ≤ committed_length (files_after h) y) added history
none_reached y [] history = omega arith
none_reached y (step ∷ added) history = (none_reached y added history, omega arith)

of_none : {stamped : List (List ℕ)} {who : Who} {x : Stem} {k : ℕ} (y : Stem)
    (added history : History) → StaysReached stamped who x k added history
    → StaysReached stamped who y 0 added history
of_none y added history st = record {
  legal = st.legal;
  others = st.others;
  reached = none_reached y added history;
}

lines_more : (who : Who) (x : Stem) (k : ℕ) (acks : List Ack) (a : Ack) → LinesAreLeast who x k acks
    → LineIsLeast who x k a → LinesAreLeast who x k (acks ++ a ∷ [])
lines_more who x k [] a all one = (one, tt)
lines_more who x k (b ∷ acks) a all one = (all.0, lines_more who x k acks a all.1 one)

pub least_none : (who : Who) (now : Option History) → TellLeast who [] now now
least_none who now stamped x k =
    adds_none now (λ added history. StaysReached stamped who x k added history → LinesAreLeast who x k [])
    (λ history st. tt)

-- one more line
pub least_more : (who : Who) (acks : List Ack) (y : Stem) (n : ℕ) {old now new : Option History}
    → TellLeast who acks old now → AtLeast who y n now new
    → TellLeast who (acks ++ ack_of y n ∷ []) old new
least_more who acks y n {old = old} {now = now} {new = new} so_far one stamped x k =
    adds_then
    (λ added history. StaysReached stamped who x k added history → LinesAreLeast who x k (acks ++ ack_of y n ∷ []))
    (so_far stamped x k) next
    (λ a b history p q st.
    lines_more who x k acks (ack_of y n) (p (early b a history st)) (q (late b a history st)))
  where
    next : Adds now new (λ added history. StaysReached stamped who x k added history → LineIsLeast who x k (ack_of y n))
    next =
        adds_both (λ added history. StaysReached stamped who x k added history → LineIsLeast who x k (ack_of y n))
        (one stamped 0) (one stamped k)
        (λ added history zero some st. record {
          small = (zero (of_none y added history st)).small;
          least = λ is own.
              (some (subst (λ z. StaysReached stamped who z k added history) (sym is) st)).least
              (subst (λ (z : Stem). z.collector ≡ who.name) (sym is) own);
        })

-- a poll's reply, and a post's
pub poll_least : (request : List ℕ) (s : State) (acks : List Ack) {before after : Option History}
    → TellLeast (process s) acks before after → OutcomeLeast request s before after (Lines acks)
poll_least request s acks told stems poll = told

pub post_least : (request : List ℕ) (s : State) (acks : List Ack) (chunks : List Chunk)
    (before after : Option History) → IsPostOf chunks request
    → OutcomeLeast request s before after (Lines acks)
post_least request s acks chunks before after post stems poll =
    absurd (never_both post.0 stems request post.1 poll)
