-- What a watcher prints of a collector is a part of what passes of it.
use Rattle.std.proofs.Common.{◌≡◌, ◌⊎◌, inl, inr, ℕ, Bool, true, false, cond, List, [], ◌∷◌, ◌++◌, Result, Some, refl, ap, ap₂, sym, subst, ◌∙◌, arith}
use Rattle.std.specs.Prelude.{◌||◌, ◌==◌, nat_lt, bytes_eq}
use Rattle.std.proofs.lemmas.Bool.{and_parts, cond-true, eqb-true, ltb-true}
use Rattle.std.proofs.lemmas.Slice.Eq.{bytes_eq-Decides}
use Rattle.chk_bytes.specs.Words.{BeginsWith}
use Rattle.chk_chunk.specs.Keys.{Chunk}
use Rattle.chk_http_grammar.specs.Messages.{Ack}
use Rattle.chk_site.specs.declared.acts.OutsideFault.{OutsideFault}
use Rattle.chk_site.specs.declared.acts.Who.{Who}
use Rattle.chk_site.specs.History.{History}
use Rattle.chk_tee.specs.Messages.{Teed, IsTee}
use Rattle.chk_tee.specs.Filters.{passing}
use Rattle.chk_tee.specs.declared.filters.Filter.{Filter}
use Rattle.chk_tee.proofs.MessageGrammar.{one_tee, tee_alone}
use Rattle.chk_tee_sender.specs.Offers.{teeds_of}
use Rattle.chk_tee_sender.specs.Sieves.{mark_of, same_collector, later, is_fresh, asked_for, is_above, rises}
use Rattle.chk_tee_sender.specs.declared.sieve.Mark.{Mark}
use Rattle.chk_cmd_subscribe.specs.Taking.{IsTaken, AreTaken, all_chunks}
use Rattle.chk_cmd_subscribe.specs.Told.{places}
use Rattle.chk_cmd_subscribe.specs.Watched.{PrintsTaken}
use Rattle.chk_cmd_subscribe.specs.Watching.{fresh_of}
use Rattle.chk_world.specs.Rules.{Legal}
use Rattle.chk_tee_laws.specs.Passed.{HasPassed, none, more, same, IsMessageOf, IsAbove, place, Each, RiseStrictly, collector_named}
use Rattle.chk_tee_laws.specs.Printed.{of_collector, IsPart, HasSome, TookOf, ArePassed, PrintsPassed}
use Rattle.chk_tee_laws.proofs.Order.{each_same, each_join}
use Rattle.chk_tee_laws.proofs.Passing.{passed_rises}
use Rattle.chk_tee_laws.proofs.Unique.{one_answer}
use Rattle.chk_cmd_subscribe.proofs.Watched.{prints_taken}
use Rattle.chk_cmd_subscribe.specs.Runs.{HasSubscribed}
use Rattle.chk_tee_sender.proofs.SieveLaws.{or_parts}

-- ---- the order

above : (a b : Mark) → later a b ≡ true → IsAbove a b
above a b h =
    elim (or_parts (nat_lt a.stem.born b.stem.born) _ h) [
      | inl less ↦ inl (ltb-true a.stem.born b.stem.born less)
      | inr rest ↦
          let p = and_parts (a.stem.born == b.stem.born) _ rest in
          inr (
            eqb-true a.stem.born b.stem.born p.0,
            elim (or_parts (nat_lt a.stem.number b.stem.number) _ p.1) [
              | inl less ↦ inl (ltb-true a.stem.number b.stem.number less)
              | inr even ↦
                  let q = and_parts (a.stem.number == b.stem.number) _ even in
                  inr (eqb-true a.stem.number b.stem.number q.0, ltb-true a.offset b.offset q.1)
            ],
          )
    ]

never_above : (a : Mark) → IsAbove a a → ⊥
never_above a (inl h) = omega (arith, h)
never_above a (inr (e, inl h)) = omega (arith, h)
never_above a (inr (e, inr (k, h))) = omega (arith, h)

above_then : (a b c : Mark) → IsAbove a b → IsAbove b c → IsAbove a c
above_then a b c (inl h) (inl i) = inl (omega arith)
above_then a b c (inl h) (inr (s, i)) = inl (omega arith)
above_then a b c (inr (s, h)) (inl i) = inl (omega arith)
above_then a b c (inr (s, inl h)) (inr (t, inl i)) = inr (s ∙ t, inl (omega arith))
above_then a b c (inr (s, inl h)) (inr (t, inr (u, i))) = inr (s ∙ t, inl (omega arith))
above_then a b c (inr (s, inr (u, h))) (inr (t, inl i)) = inr (s ∙ t, inl (omega arith))
above_then a b c (inr (s, inr (u, h))) (inr (t, inr (v, i))) = inr (s ∙ t, inr (u ∙ v, omega arith))

-- ---- one of some chunks

abbrev IsIn : Teed → List Teed → Type 0
IsIn u [] = ⊥
IsIn u (t ∷ ts) = (u ≡ t) ⊎ IsIn u ts

each_in : (P : Teed → Type 0) (u : Teed) (ts : List Teed) → Each P ts → IsIn u ts → P u
each_in P u [] all i = absurd i
each_in P u (t ∷ ts) all (inl e) = subst P (sym e) all.0
each_in P u (t ∷ ts) all (inr i) = each_in P u ts all.1 i

in_left : (u : Teed) (ts us : List Teed) → IsIn u ts → IsIn u (ts ++ us)
in_left u [] us i = absurd i
in_left u (t ∷ ts) us (inl e) = inl e
in_left u (t ∷ ts) us (inr i) = inr (in_left u ts us i)

in_right : (u : Teed) (ts us : List Teed) → IsIn u us → IsIn u (ts ++ us)
in_right u [] us i = i
in_right u (t ∷ ts) us i = inr (in_right u ts us i)

all_in : (ts : List Teed) → Each (λ t. IsIn t ts) ts
all_in [] = tt
all_in (t ∷ ts) = (inl refl, each_same (λ u i. inr i) ts (all_in ts))

-- what lies above the first stands behind it
behind_first : (t : Teed) (ts vs : List Teed) → Each (λ v. IsAbove (place t) (place v)) vs
    → Each (λ v. IsIn v (t ∷ ts)) vs
    → Each (λ v. IsIn v ts) vs
behind_first t ts [] up all = tt
behind_first t ts (v ∷ vs) up all = (go all.0, behind_first t ts vs up.1 all.1)
  where
    go : IsIn v (t ∷ ts) → IsIn v ts
    go (inl e) = absurd (never_above (place t) (subst (λ w. IsAbove (place t) (place w)) e up.0))
    go (inr i) = i

-- a rising list of chunks of another one that rises is a part of it
rising_part : (us ts : List Teed) → RiseStrictly us → RiseStrictly ts → Each (λ u. IsIn u ts) us
    → IsPart us ts
rising_part [] ts one two all = tt
rising_part (u ∷ us) [] one two all = absurd all.0
rising_part (u ∷ us) (t ∷ ts) one two all =
    go all.0 (λ rest. rising_part us ts one.1 two.1 rest)
    (λ rest. rising_part (u ∷ us) ts one two.1 rest)
  where
    go : IsIn u (t ∷ ts) → (Each (λ v. IsIn v ts) us → IsPart us ts)
        → (Each (λ v. IsIn v ts) (u ∷ us) → IsPart (u ∷ us) ts)
        → IsPart (u ∷ us) (t ∷ ts)
    go (inl e) here later =
        inl (
          e,
          here (behind_first t ts us
              (subst (λ w. Each (λ v. IsAbove (place w) (place v)) us) e one.0) all.1),
        )
    go (inr i) here later =
        let up : IsAbove (place t) (place u) =
        each_in (λ v. IsAbove (place t) (place v)) u ts two.0 i in
        inr (later (
          i,
          behind_first t ts us (each_same
              (λ v over. above_then (place t) (place u) (place v) up over) us one.0) all.1,
        ))

-- ---- the chunks of one collector

each_of : (name : List ℕ) (P : Teed → Type 0) (ts : List Teed)
    → Each (λ t. t.stem.collector ≡ name → P t) ts → Each P (of_collector name ts)
each_of name P [] all = tt
each_of name P (t ∷ ts) all = go (bytes_eq t.stem.collector name) refl (each_of name P ts all.1)
  where
    go : (b : Bool) → bytes_eq t.stem.collector name ≡ b → Each P (of_collector name ts)
        → Each P (cond b (t ∷ of_collector name ts) (of_collector name ts))
    go true e rest = (all.0 ((bytes_eq-Decides t.stem.collector name).0 e), rest)
    go false e rest = rest

abbrev IsAmong : Mark → List Mark → Type 0
IsAmong q [] = ⊥
IsAmong q (b ∷ bs) = (q ≡ b) ⊎ IsAmong q bs

among_more : (q p : Mark) (bs : List Mark) → IsAmong q bs → IsAmong q (bs ++ p ∷ [])
among_more q p [] i = absurd i
among_more q p (b ∷ bs) (inl e) = inl e
among_more q p (b ∷ bs) (inr i) = inr (among_more q p bs i)

among_last : (p : Mark) (bs : List Mark) → IsAmong p (bs ++ p ∷ [])
among_last p [] = inl refl
among_last p (b ∷ bs) = inr (among_last p bs)

above_among : (q p : Mark) (bs : List Mark) → is_above bs p ≡ true → IsAmong q bs
    → same_collector q p ≡ true → later q p ≡ true
above_among q p [] h i s = absurd i
above_among q p (b ∷ bs) h (inl e) s =
    let first = (and_parts (cond (same_collector b p) (later b p) true) (is_above bs p) h).0 in
    ap (λ m. later m p) e
    ∙ (sym (cond-true (same_collector b p) (later b p) true
    (ap (λ m. same_collector m p) (sym e) ∙ s)) ∙ first)
above_among q p (b ∷ bs) h (inr i) s =
    above_among q p bs (and_parts (cond (same_collector b p) (later b p) true) (is_above bs p)
    h).1 i s

-- what stands behind a place of the collector lies above it
above_all : (name : List ℕ) (q : Mark) (before : List Mark) (ts : List Teed) → q.stem.collector
    ≡ name → IsAmong q before
    → rises before (places ts) ≡ true → Each (λ t. t.stem.collector ≡ name → IsAbove q (place t)) ts
above_all name q before [] of among h = tt
above_all name q before (t ∷ ts) of among h =
    let parts = and_parts (is_above before (place t)) (rises (before ++ place t ∷ []) (places ts))
    h in (
      λ e. above q (place t)
          (above_among q (place t) before parts.0 among
          ((bytes_eq-Decides q.stem.collector t.stem.collector).1 (of ∙ sym e))),
      above_all name q (before ++ place t ∷ []) ts of (among_more q (place t) before among) parts.1,
    )

-- so those of one collector rise strictly
rise_of : (name : List ℕ) (before : List Mark) (ts : List Teed) → rises before (places ts) ≡ true
    → RiseStrictly (of_collector name ts)
rise_of name before [] h = tt
rise_of name before (t ∷ ts) h =
    go (bytes_eq t.stem.collector name) refl (rise_of name (before ++ place t ∷ []) ts parts.1)
  where
    parts : (is_above before (place t) ≡ true) × (rises (before ++ place t ∷ []) (places ts) ≡ true)
    parts = and_parts (is_above before (place t)) (rises (before ++ place t ∷ []) (places ts)) h

    go : (b : Bool) → bytes_eq t.stem.collector name ≡ b → RiseStrictly (of_collector name ts)
        → RiseStrictly (cond b (t ∷ of_collector name ts) (of_collector name ts))
    go true e rest = (
      each_of name (λ u. IsAbove (place t) (place u)) ts
          (above_all name (place t) (before ++ place t ∷ []) ts
          ((bytes_eq-Decides t.stem.collector name).0 e)
          (among_last (place t) before) parts.1),
      rest,
    )
    go false e rest = rest

-- ---- what was taken

each_fresh : (P : Teed → Type 0) (marks : List Mark) (ts : List Teed) → Each P ts
    → Each P (fresh_of marks ts)
each_fresh P marks [] all = tt
each_fresh P marks (t ∷ ts) all =
    go (is_fresh marks (mark_of t.stem t.offset))
    (each_fresh P (asked_for marks (mark_of t.stem t.offset)) ts all.1)
  where
    go : (b : Bool) → Each P (fresh_of (asked_for marks (mark_of t.stem t.offset)) ts)
        → Each P (cond b (t ∷ fresh_of (asked_for marks (mark_of t.stem t.offset)) ts)
        (fresh_of (asked_for marks (mark_of t.stem t.offset)) ts))
    go true rest = (all.0, rest)
    go false rest = rest

some_of : (name : List ℕ) (t : Teed) (ts : List Teed) → t.stem.collector ≡ name → IsIn t ts
    → HasSome name ts
some_of name t [] e i = absurd i
some_of name t (u ∷ ts) e (inl is) = inl (ap (λ (v : Teed). v.stem.collector) (sym is) ∙ e)
some_of name t (u ∷ ts) e (inr i) = inr (some_of name t ts e i)

-- the chunks of a message of an answered post are among those that pass
passes_on : (who : Who) (f : Filter) (history : History) (items us : List Teed) (bytes : List ℕ)
    → HasPassed who f history items
    → IsMessageOf who f history bytes → IsTee us bytes → Each (λ u. IsIn u items) us
passes_on who f _ _ us bytes none message tee = absurd message
passes_on who f _ _ us bytes (more {history = history} {items = items} step cs acks a before)
    (inl (chunks, lines, b, its)) tee =
    let answer = one_answer who history step chunks cs lines acks b a in
    let is : us ≡ passing f (teeds_of cs acks) =
    one_tee us (passing f (teeds_of chunks lines)) bytes tee its
    ∙ ap₂ (λ (c : List Chunk) (l : List Ack). passing f (teeds_of c l)) answer.0 answer.1 in
    each_same (λ u i. in_right u items (passing f (teeds_of cs acks)) (subst (IsIn u) is i)) us
    (all_in us)
passes_on who f _ _ us bytes (more {history = history} {items = items} step cs acks a before)
    (inr message) tee =
    each_same (λ u i. in_left u items (passing f (teeds_of cs acks)) i) us
    (passes_on who f history items us bytes before message tee)
passes_on who f _ _ us bytes (same step never before) (inl (chunks, lines, b, its)) tee =
    absurd (never chunks lines b)
passes_on who f _ _ us bytes (same {history = history} {items = items} step never before)
    (inr message) tee =
    passes_on who f history items us bytes before message tee

module _ (who : Who) (name : List ℕ) (f : Filter) (history : History)
    (took : TookOf who name f history) (items : List Teed)
    (passed : HasPassed (collector_named name) f history items) where
  abbrev Passes : Teed → Type 0
  Passes t = t.stem.collector ≡ name → IsIn t items

  one_taken : (us : List Teed) → IsTaken who us history → Each Passes us
  one_taken us m = each_same (λ t i e. each_in (λ v. IsIn v items) t us (its t i e) i) us
      (all_in us)
    where
      its : (t : Teed) → IsIn t us → t.stem.collector ≡ name → Each (λ v. IsIn v items) us
      its t i e =
          let sent = took us m.bytes m.came m.tee (some_of name t us e i) in
          go sent.0 sent.1 sent.2
        where
          go : (message : List ℕ) → IsMessageOf (collector_named name) f history message
              → BeginsWith message m.bytes
              → Each (λ v. IsIn v items) us
          go message is begins = whole message is begins
              (its_tee (collector_named name) f history message is)
            where
              its_tee : (who : Who) (f : Filter) (history : History) (message : List ℕ)
                  → IsMessageOf who f history message
                  → (vs : List Teed) × IsTee vs message
              its_tee who f [] message is = absurd is
              its_tee who f (step ∷ history) message (inl (chunks, lines, b, tee)) =
                  (passing f (teeds_of chunks lines), tee)
              its_tee who f (step ∷ history) message (inr is) = its_tee who f history message is

              whole : (message : List ℕ) → IsMessageOf (collector_named name) f history message
                  → BeginsWith message m.bytes
                  → (vs : List Teed) × IsTee vs message → Each (λ v. IsIn v items) us
              whole message is begins (vs, tee) =
                  let same : m.bytes ≡ message = tee_alone us vs m.bytes message m.tee tee begins in
                  passes_on (collector_named name) f history items us message passed is
                  (subst (IsTee us) same m.tee)

  all_taken : (messages : List (List Teed)) → AreTaken who messages history
      → Each Passes (all_chunks messages)
  all_taken [] all = tt
  all_taken (us ∷ messages) all =
      each_join Passes us (all_chunks messages) (one_taken us all.0) (all_taken messages all.1)

part_passed : (stamped : List (List ℕ)) (who : Who)
    (result : Result (Unit {0}) OutsideFault) (added history : History)
    → Legal stamped (added ++ history)
    → (seen : PrintsTaken who result added history) (name : List ℕ) (f : Filter)
    → TookOf who name f (added ++ history)
    → ArePassed name f (added ++ history) (fresh_of [] (all_chunks seen.messages))
part_passed stamped who result added history legal seen name f took items passed =
    let chunks : List Teed = fresh_of [] (all_chunks seen.messages) in
    rising_part (of_collector name chunks) items (rise_of name [] chunks seen.rise)
    (passed_rises stamped (added ++ history) legal name f items passed).rise
    (each_of name (λ t. IsIn t items) chunks
    (each_fresh (Passes who name f (added ++ history) took items passed) []
    (all_chunks seen.messages)
    (all_taken who name f (added ++ history) took items passed seen.messages seen.taken)))

pub printed_passed : (stamped : List (List ℕ)) (who : Who) (door : List ℕ) (turns : ℕ)
    (result : Result (Unit {0}) OutsideFault) (added history : History)
    → Legal stamped (added ++ history)
    → HasSubscribed who door turns result (Some history) (Some (added ++ history))
    → PrintsPassed who result added history
printed_passed stamped who door turns result added history legal ran =
    let seen = prints_taken who door turns result added history ran in
    record {
      chunks = fresh_of [] (all_chunks seen.messages);
      refused = seen.refused;
      prints = seen.prints;
      rise = seen.rise;
      passed = part_passed stamped who result added history legal seen;
    }
