-- Where the puts of a post lead the sinks.
use Rattle.std.proofs.Common.{◌≡◌, inl, inr, ℕ, ◌≤◌, ◌<◌, Bool, true, false, List, [], ◌∷◌, ◌++◌, Option, Some, None, Result, Ok, Err, ap, sym, subst, refl, ◌∙◌, arith, ◌⊎◌, if◌then◌else◌}
use Rattle.std.specs.Prelude.{IfErr, MatchBool}
use Rattle.chk_bytes.specs.Stems.{Stem}
use Rattle.chk_http_grammar.specs.Messages.{Ack, ack_of}
use Rattle.chk_sink.specs.declared.fault.SinkFault.{SinkFault}
use Rattle.chk_sink.specs.declared.fault.SinkFault.TheVariants.{Outside, Damaged, Spent, NoMemory}
use Rattle.chk_sink.specs.States.{State, Writing, needs_next, let_go}
use Rattle.chk_sink.specs.Puts.{IsPlaced, LeavesAfterPut, IsGrown, IsNew, GoesOnInSame, GoesOnInNext, GoesOn}
use Rattle.chk_sink.specs.Closes.{OnceDone}
use Rattle.chk_collector.specs.Handled.{Puts, begins, goes_on, IsRefusedNext, IsUnwritten, PutsThen, EndsInPlace, IsSeenAlike, IsUnseen, KeepsSeen}

-- one more line
pub place_more : (s : State) (acks : List Ack) (x : Stem) (n : ℕ) → IsPlaced s (x, n) → EndsInPlace s (acks ++ ack_of x n ∷ [])
place_more s [] x n placed = placed
place_more s (a ∷ []) x n placed = placed
place_more s (a ∷ (b ∷ acks)) x n placed = place_more s (b ∷ acks) x n placed

-- ---- when the sink was seen

seen_self : (o : Option Writing) → IsSeenAlike o o
seen_self None = tt
seen_self (Some o) = refl

seen_then : (a b c : Option Writing) → IsSeenAlike a b → IsSeenAlike b c → IsSeenAlike a c
seen_then a b None p q = tt
seen_then a None (Some z) p q = absurd q
seen_then None (Some y) (Some z) p q = absurd p
seen_then (Some x) (Some y) (Some z) p q = q ∙ p

unseen_then : (b c : Option Writing) → IsUnseen b → IsSeenAlike b c → IsUnseen c
unseen_then b None p q = tt
unseen_then None (Some z) p q = absurd q
unseen_then (Some y) (Some z) p q = q ∙ p

grown_seen : (a b : Option Writing) → IsGrown a b → IsSeenAlike a b
grown_seen None b g = absurd g
grown_seen (Some a) None g = absurd g
grown_seen (Some a) (Some b) g = g.2

new_unseen : (b : Option Writing) → IsNew b → IsUnseen b
new_unseen None n = absurd n
new_unseen (Some b) n = n.1

pub keeps_same : (s : State) → KeepsSeen s s
keeps_same s = record { same = λ e. seen_self s.current; new_one = λ less. absurd (omega (arith, less)) }

-- nothing is written to any more
keeps_none : (s t : State) → t.current ≡ None → KeepsSeen s t
keeps_none s t none = record {
  same = λ e. subst (λ o. IsSeenAlike s.current o) (sym none) tt;
  new_one = λ less. subst IsUnseen (sym none) tt;
}

-- a put that was done: the number is the same or the next one
record Steps (s t : State) : Type 0 where
  pub keeps : KeepsSeen s t
  pub number : s.number ≤ t.number

one_steps : (s t : State) → GoesOn s t → Steps s t
one_steps s t = go (needs_next s.current)
  where
    go : (b : Bool) → MatchBool b (GoesOnInNext s t) (GoesOnInSame s t) → Steps s t
    go true g = record {
      keeps = record { same = λ e. absurd (omega (arith, e, g.number)); new_one = λ less. new_unseen t.current g.current };
      number = omega (arith, g.number);
    }
    go false g = record {
      keeps = record { same = λ e. grown_seen s.current t.current g.current; new_one = λ less. absurd (omega (arith, less, g.number)) };
      number = omega (arith, g.number);
    }

keeps_then : (s t u : State) → s.number ≤ t.number → t.number ≤ u.number → KeepsSeen s t → KeepsSeen t u → KeepsSeen s u
keeps_then s t u before after p q = record {
  same = λ e. seen_then s.current t.current u.current (p.same (omega (arith, e, before, after))) (q.same (omega (arith, e, before, after)));
  new_one = λ less. by (split s.number t.number u.number less before);
}
  where
    split : (a b c : ℕ) → a < c → a ≤ b → (b < c) ⊎ ((a < b) × (c ≤ b))
    split a b c less le = grind arith

    by : (t.number < u.number) ⊎ ((s.number < t.number) × (u.number ≤ t.number)) → IsUnseen u.current
    by (inl less) = q.new_one less
    by (inr x) = unseen_then t.current u.current (p.new_one x.0) (q.same (omega (arith, x.1, after)))

puts_steps : {n : ℕ} {s t : State} → Puts n s t → Steps s t
puts_steps {s = s} begins = record { keeps = keeps_same s; number = omega arith }
puts_steps {s = s} {t = u} (goes_on {t = t} puts next) =
    let p = puts_steps puts in
    let q = one_steps t u next in
    record { keeps = keeps_then s t u p.number q.number p.keeps q.keeps; number = omega (arith, p.number, q.number) }

leaves_keeps : (s t : State) (fault : SinkFault) → LeavesAfterPut s t fault → (t ≡ s) ⊎ (t.current ≡ None)
leaves_keeps s t (Outside call) left = inr left.current
leaves_keeps s t (Damaged name at) left = absurd left
leaves_keeps s t (Spent born) left = inr (ap (λ (n : State). n.current) left)
leaves_keeps s t NoMemory (inl same) = go (needs_next s.current) same
  where
    go : (b : Bool) → t ≡ (if b then let_go s else s) → (t ≡ s) ⊎ (t.current ≡ None)
    go true e = inr (ap (λ (n : State). n.current) e)
    go false e = inl e
leaves_keeps s t NoMemory (inr left) = inr left.1.abandoned.current

-- the puts of a post keep it, whether or not all were done
pub posts_keep : (n : ℕ) (s t : State) (done : Result (Unit {0}) SinkFault) → OnceDone done (Puts n s t) → IfErr done (PutsThen n s t) → KeepsSeen s t
posts_keep n s t (Ok value) puts left = (puts_steps puts).keeps
posts_keep n s t (Err fault) puts left = by (ends_keeps left.ends)
  where
    ends_keeps : IsRefusedNext n left.count left.reached t fault ⊎ IsUnwritten n left.count left.reached t fault → (t ≡ left.reached) ⊎ (t.current ≡ None)
    ends_keeps (inl refused) = leaves_keeps left.reached t fault refused.leaves
    ends_keeps (inr unwritten) = inl unwritten.same

    by : (t ≡ left.reached) ⊎ (t.current ≡ None) → KeepsSeen s t
    by (inl same) = subst (KeepsSeen s) (sym same) (puts_steps left.puts).keeps
    by (inr none) = keeps_none s t none
