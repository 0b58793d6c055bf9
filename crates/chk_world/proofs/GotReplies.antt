-- What a process got for a message tells what is so.
use Rattle.std.proofs.Common.{◌≡◌, inl, inr, ℕ, ◌<◌, Bool, true, false, ◌&&◌, List, [], ◌∷◌, ◌++◌, length, length-append, append-nil, ap, sym, subst, ◌∙◌, arith, MatchBool, if◌then◌else◌}
use Rattle.std.specs.List.{list_any}
use Rattle.httparse.specs.Grammar.{print_blank}
use Rattle.httparse.proofs.GrammarLemmas.{print_response-append}
use Rattle.chk_site.specs.declared.acts.Role.TheVariants.{Collector}
use Rattle.chk_site.specs.declared.acts.Who.{Who}
use Rattle.chk_site.specs.declared.acts.ActAnswer.TheVariants.{Done}
use Rattle.chk_site.specs.Acts.{Deed, Answers, Gets, deed, is_done, same_role}
use Rattle.chk_site.specs.History.{Step, History, since_start}
use Rattle.chk_site.specs.Messages.{Reply, is_of, is_inside, taken, replies, replies_in}
use Rattle.chk_site.specs.Honest.{Agrees, GotAnswer, FrontOfSome, WholeOfSure, is_sure}
use Rattle.chk_http_grammar.specs.Messages.{Ack, IsGoodReply}
use Rattle.chk_http_grammar.proofs.HeadLemmas.{HasReplyHead-is}
use Rattle.chk_world.specs.Agents.{GotFor}
use Rattle.chk_world.specs.Rules.{Legal}
use Rattle.chk_world.proofs.SentMessages.{since_holds}
use Rattle.chk_world.proofs.RepliesTell.{AnswerTells, AllTell, front_tells, replies_tell}

-- ---- a front of an answer

whole_front : (rs : List Reply) (bytes : List ℕ) → WholeOfSure rs bytes → FrontOfSome rs bytes
whole_front [] bytes h = absurd h
whole_front (r ∷ rs) bytes (inl h) = inl ([], sym h.1 ∙ sym (append-nil bytes))
whole_front (r ∷ rs) bytes (inr h) = inr (whole_front rs bytes h)

got_front : (rs : List Reply) (bytes : List ℕ) → GotAnswer rs bytes → FrontOfSome rs bytes
got_front rs bytes = go (list_any is_sure rs)
  where
    go : (b : Bool) → MatchBool b (WholeOfSure rs bytes) (FrontOfSome rs bytes) → FrontOfSome rs bytes
    go true h = whole_front rs bytes h
    go false h = h

replies_stay : (history : History) (step : Step) (n : ℕ) (bytes : List ℕ) → FrontOfSome (replies history n) bytes → FrontOfSome (replies (step ∷ history) n) bytes
replies_stay history step n bytes h = go (deed step.act)
  where
    go : (call : Deed) → FrontOfSome (replies_in n call step.act.who (is_done step.act.answer) history (replies history n)) bytes
    go (Answers t answer) = pick (same_role step.act.who.role Collector) (is_of step.act.who n (taken history t))
      where
        pick : (a b : Bool) → FrontOfSome (if a && b then record { bytes = answer; done = is_done step.act.answer; inside = is_inside (taken history t) } ∷ replies history n else replies history n) bytes
        pick true true = inr h
        pick true false = h
        pick false b = h
    go call = h

got_here : (history : History) (step : Step) (n : ℕ) (bytes : List ℕ) (number of : ℕ) → Agrees history step.act.who (deed step.act) step.act.answer
    → deed step.act ≡ Gets n → step.act.answer ≡ Done (bytes ∷ []) number of → FrontOfSome (replies (step ∷ history) n) bytes
got_here history step n bytes number of agrees is answer =
    replies_stay history step n bytes
    (got_front (replies history n) bytes
    (subst (λ a. Agrees history step.act.who (Gets n) a) answer (subst (λ call. Agrees history step.act.who call step.act.answer) is agrees)))

pub got_some : (stamped : List (List ℕ)) (history : History) → Legal stamped history → (who : Who) (n : ℕ) (bytes : List ℕ)
    → GotFor (since_start who history) n bytes → FrontOfSome (replies history n) bytes
got_some stamped history legal who n bytes got =
    since_holds (λ h. FrontOfSome (replies h n) bytes) stamped who got.step
    (λ h l. got_here h got.step n bytes got.number got.of l.1.honest.agrees got.call got.done)
    (λ h step l k. replies_stay h step n bytes k) history legal got.one

-- ---- a good reply has some bytes

has_some : (bytes a : List ℕ) (x : ℕ) (rest : List ℕ) → bytes ≡ a ++ x ∷ rest → 0 < length bytes
has_some bytes a x rest e = omega (arith, ap length e, length-append a (x ∷ rest))

none_good : (acks : List Ack) → IsGoodReply acks [] → ⊥
none_good acks good =
    let r = good.1 in
    let some : 0 < length {A = ℕ} [] =
    has_some [] (print_blank r.head.blank) 72 _ (HasReplyHead-is [] r.head r.behind r.has_head ∙ print_response-append r.head r.behind) in
    omega (arith, some)

some_tells : (history : History) (n : ℕ) (acks : List Ack) (bytes : List ℕ) → IsGoodReply acks bytes → (rs : List Reply) → AllTell history n rs
    → FrontOfSome rs bytes → AnswerTells history n bytes
some_tells history n acks bytes good [] all e = absurd (none_good acks (subst (IsGoodReply acks) e good))
some_tells history n acks bytes good (r ∷ rs) all (inl begins) = front_tells history n r.bytes bytes begins all.0
some_tells history n acks bytes good (r ∷ rs) all (inr h) = some_tells history n acks bytes good rs all.1 h

-- a good reply that a process got tells what is so
pub got_tells : (stamped : List (List ℕ)) (history : History) → Legal stamped history → (who : Who) (n : ℕ) (acks : List Ack) (bytes : List ℕ)
    → IsGoodReply acks bytes → GotFor (since_start who history) n bytes → AnswerTells history n bytes
got_tells stamped history legal who n acks bytes good got =
    some_tells history n acks bytes good (replies history n) (replies_tell stamped history legal n) (got_some stamped history legal who n bytes got)
