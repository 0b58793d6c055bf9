-- Lines that are printed one after the other.
use Rattle.std.proofs.Common.{◌≡◌, ℕ, ◌+◌, Bool, true, false, cond, List, [], ◌∷◌, ◌++◌, length, map, Option, Result, Ok, Err, refl, sym, ap, ◌∙◌, subst, arith, length-append}
use Rattle.chk_site.specs.declared.acts.Who.{Who}
use Rattle.chk_site.specs.declared.acts.OutsideFault.{OutsideFault}
use Rattle.chk_site.specs.History.{History}
use Rattle.chk_cmd_output.specs.Printing.{PrintsInTurn, all_printed, unprinted, printed_on, ended}
use Rattle.chk_tee.specs.Messages.{Teed}
use Rattle.chk_tee_sender.specs.Sieves.{mark_of, is_fresh, asked_for}
use Rattle.chk_tee_sender.specs.declared.sieve.Mark.{Mark}
use Rattle.chk_cmd_subscribe.specs.declared.Watch.{Watch}
use Rattle.chk_cmd_subscribe.specs.Lines.{chunk_line}
use Rattle.std.specs.Prelude.{OnOk}
use Rattle.chk_cmd_subscribe.specs.Watching.{fresh_of, seen_of, printed_more, SeesSo, PrintsFresh}

pub prints_join : {who : Who} {xs ys : List (List ℕ)} {result : Result (Unit {0}) OutsideFault} {old mid new : Option History}
    → PrintsInTurn who xs (Ok tt) old mid → PrintsInTurn who ys result mid new → PrintsInTurn who (xs ++ ys) result old new
prints_join all_printed rest = rest
prints_join (printed_on one adds more) rest = printed_on one adds (prints_join more rest)

pub prints_cut : {who : Who} {xs : List (List ℕ)} (ys : List (List ℕ)) {fault : OutsideFault} {old new : Option History}
    → PrintsInTurn who xs (Err fault) old new → PrintsInTurn who (xs ++ ys) (Err fault) old new
prints_cut ys unprinted = unprinted
prints_cut ys (printed_on one adds more) = printed_on one adds (prints_cut ys more)
prints_cut ys (ended given one ends adds) = ended given one ends adds

-- the first of some chunks, and the rest
fresh_first : (marks : List Mark) (t : Teed) (ts : List Teed)
    → fresh_of marks (t ∷ ts) ≡ fresh_of marks (t ∷ []) ++ fresh_of (asked_for marks (mark_of t.stem t.offset)) ts
fresh_first marks t ts = go (is_fresh marks (mark_of t.stem t.offset))
  where
    go : (b : Bool)
        → cond b (t ∷ fresh_of (asked_for marks (mark_of t.stem t.offset)) ts) (fresh_of (asked_for marks (mark_of t.stem t.offset)) ts)
        ≡ cond b (t ∷ []) [] ++ fresh_of (asked_for marks (mark_of t.stem t.offset)) ts
    go true = refl
    go false = refl

lines_first : (marks : List Mark) (t : Teed) (ts : List Teed)
    → map chunk_line (fresh_of marks (t ∷ ts))
    ≡ map chunk_line (fresh_of marks (t ∷ [])) ++ map chunk_line (fresh_of (asked_for marks (mark_of t.stem t.offset)) ts)
lines_first marks t ts = ap (map chunk_line) (fresh_first marks t ts) ∙ go (fresh_of marks (t ∷ [])) (fresh_of (asked_for marks (mark_of t.stem t.offset)) ts)
  where
    go : (xs ys : List Teed) → map chunk_line (xs ++ ys) ≡ map chunk_line xs ++ map chunk_line ys
    go [] ys = refl
    go (x ∷ xs) ys = ap (λ l. chunk_line x ∷ l) (go xs ys)

by_parts : (a b : Watch) → a.sieve ≡ b.sieve → a.printed ≡ b.printed → a.refused ≡ b.refused → a ≡ b
by_parts a b p q r =
    ap (λ (x : List Mark). let w : Watch = record { sieve = x; printed = a.printed; refused = a.refused } in w) p
    ∙ (ap (λ n. let w : Watch = record { sieve = b.sieve; printed = n; refused = a.refused } in w) q
    ∙ ap (λ n. let w : Watch = record { sieve = b.sieve; printed = b.printed; refused = n } in w) r)

-- behind the first and then the rest
seen_first : (w v : Watch) (t : Teed) (ts : List Teed) → v ≡ seen_of w (t ∷ []) → seen_of v ts ≡ seen_of w (t ∷ ts)
seen_first w v t ts is =
    ap (λ (u : Watch). seen_of u ts) is
    ∙ by_parts (seen_of (seen_of w (t ∷ [])) ts) (seen_of w (t ∷ ts)) refl
    (omega (arith, ap length (fresh_first w.sieve t ts), length-append (fresh_of w.sieve (t ∷ [])) (fresh_of (asked_for w.sieve (mark_of t.stem t.offset)) ts)))
    refl

-- what is printed of the rest from here is printed of all from the beginning
abbrev pub PrintsOn : Who → List Teed → Watch → Option History → List Teed → Watch → Option History → Type 0
PrintsOn who all first old rest w now =
    (result : Result (Unit {0}) OutsideFault) (v : Watch) (new : Option History)
    → PrintsFresh who rest w result v now new → PrintsFresh who all first result v old new

pub prints_begin : (who : Who) (all : List Teed) (w : Watch) (now : Option History) → PrintsOn who all w now all w now
prints_begin who all w now result v new prints = prints

sees_as : (w u v : Watch) (t : Teed) (ts : List Teed) (result : Result (Unit {0}) OutsideFault) → v ≡ seen_of w (t ∷ [])
    → SeesSo v ts result u → SeesSo w (t ∷ ts) result u
sees_as w u v t ts (Ok done) is sees = sees ∙ seen_first w v t ts is
sees_as w u v t ts (Err fault) is sees = tt

pub prints_next : (who : Who) (all : List Teed) (first : Watch) (old : Option History) (left ts : List Teed) (t : Teed) (w v : Watch)
    (now mid : Option History) → left ≡ t ∷ ts → PrintsOn who all first old left w now → PrintsFresh who (t ∷ []) w (Ok tt) v now mid
    → PrintsOn who all first old ts v mid
prints_next who all first old left ts t w v now mid is on one result u new rest =
    let kept : v.sieve ≡ asked_for w.sieve (mark_of t.stem t.offset) = ap (λ (x : Watch). x.sieve) one.sees in
    on result u new
    (subst (λ (l : List Teed). PrintsFresh who l w result u now new) (sym is) record {
      prints = subst (λ (l : List (List ℕ)). PrintsInTurn who l result now new) (sym (lines_first w.sieve t ts))
          (prints_join one.prints (subst (λ (m : List Mark). PrintsInTurn who (map chunk_line (fresh_of m ts)) result mid new) kept rest.prints));
      sees = sees_as w u v t ts result one.sees rest.sees;
    })

pub prints_stop : (who : Who) (all : List Teed) (first : Watch) (old : Option History) (left ts : List Teed) (t : Teed) (w v : Watch)
    (now new : Option History) (fault : OutsideFault) → left ≡ t ∷ ts → PrintsOn who all first old left w now
    → PrintsFresh who (t ∷ []) w (Err fault) v now new → PrintsFresh who all first (Err fault) v old new
prints_stop who all first old left ts t w v now new fault is on one =
    on (Err fault) v new
    (subst (λ (l : List Teed). PrintsFresh who l w (Err fault) v now new) (sym is) record {
      prints = subst (λ (l : List (List ℕ)). PrintsInTurn who l (Err fault) now new) (sym (lines_first w.sieve t ts))
          (prints_cut (map chunk_line (fresh_of (asked_for w.sieve (mark_of t.stem t.offset)) ts)) one.prints);
      sees = tt;
    })

pub prints_end : (who : Who) (all : List Teed) (first : Watch) (old : Option History) (left : List Teed) (w : Watch) (now : Option History)
    → left ≡ [] → PrintsOn who all first old left w now → PrintsFresh who all first (Ok tt) w old now
prints_end who all first old left w now is on =
    on (Ok tt) w now
    (subst (λ (l : List Teed). PrintsFresh who l w (Ok tt) w now now) (sym is) record {
      prints = all_printed;
      sees = by_parts w (seen_of w []) refl (omega arith) refl;
    })

-- ---- one chunk

one_fresh : (b : Bool) (t : Teed) (marks : List Mark) → is_fresh marks (mark_of t.stem t.offset) ≡ b
    → fresh_of marks (t ∷ []) ≡ cond b (t ∷ []) []
one_fresh b t marks e = ap (λ (x : Bool). cond x (t ∷ []) []) e

pub fresh_yes : (who : Who) (t : Teed) (w m v : Watch) (result : Result (Unit {0}) OutsideFault) (old new : Option History)
    → is_fresh w.sieve (mark_of t.stem t.offset) ≡ true
    → m ≡ record { sieve = asked_for w.sieve (mark_of t.stem t.offset); printed = w.printed; refused = w.refused }
    → PrintsInTurn who (chunk_line t ∷ []) result old new → OnOk result (v ≡ printed_more m) → PrintsFresh who (t ∷ []) w result v old new
fresh_yes who t w m v result old new e is prints counts = record {
  prints = subst (λ (ts : List Teed). PrintsInTurn who (map chunk_line ts) result old new) (sym (one_fresh true t w.sieve e)) prints;
  sees = go result counts;
}
  where
    go : (r : Result (Unit {0}) OutsideFault) → OnOk r (v ≡ printed_more m) → SeesSo w (t ∷ []) r v
    go (Ok done) h =
        h
        ∙ (ap printed_more is
        ∙ by_parts (printed_more (record { sieve = asked_for w.sieve (mark_of t.stem t.offset); printed = w.printed; refused = w.refused }))
        (seen_of w (t ∷ [])) refl (ap (λ n. w.printed + n) (sym (ap length (one_fresh true t w.sieve e)))) refl)
    go (Err fault) h = tt

pub fresh_no : (who : Who) (t : Teed) (w v : Watch) (now : Option History) → is_fresh w.sieve (mark_of t.stem t.offset) ≡ false
    → v ≡ record { sieve = asked_for w.sieve (mark_of t.stem t.offset); printed = w.printed; refused = w.refused }
    → PrintsFresh who (t ∷ []) w (Ok tt) v now now
fresh_no who t w v now e is = record {
  prints = subst (λ (ts : List Teed). PrintsInTurn who (map chunk_line ts) (Ok tt) now now) (sym (one_fresh false t w.sieve e)) all_printed;
  sees = is
      ∙ by_parts (record { sieve = asked_for w.sieve (mark_of t.stem t.offset); printed = w.printed; refused = w.refused })
      (seen_of w (t ∷ [])) refl (omega (arith, ap length (one_fresh false t w.sieve e))) refl;
}
