-- The puts of a post's chunks, as far as they've come.
use Rattle.chk_collector.proofs.Handling.{place_more}
use Rattle.chk_collector.specs.Handled.{Puts, begins, goes_on, PutsThen, EndsInPlace, OfPosts}
use Rattle.chk_sink.specs.declared.fault.SinkFault.TheVariants.{NoMemory}
use Rattle.chk_sink.specs.Puts.{IsPlaced, LeavesAfterPut, SpentExactly, GoesOn}
use Rattle.chk_sink.specs.Works.{OfPut}
use Rattle.chk_sink.proofs.Owning.{made_by}
use Rattle.chk_sink.proofs.Holding.{told_by}
use Rattle.chk_world.proofs.Working.{works_then, works_as}
use Rattle.chk_world.specs.Works.{Works, rests}
use Rattle.chk_site.specs.declared.acts.OutsideFault.{OutsideFault}
use Rattle.std.proofs.Common.{◌≡◌, ℕ, zero, ◌*◌, ◌≤◌, List, [], ◌∷◌, ◌++◌, length, length-append, map, Option, Result, Ok, Err, refl, sym, ap, subst, ◌∙◌, append_assoc, append-nil, arith, suc, ◌+◌, ◌<◌, ◌^◌, None, inl, inr}
use Rattle.std.specs.Prelude.{Contains, IsTrue}
use Rattle.std.proofs.lemmas.List.Elements.{Contains-append_right}
use Rattle.chk_bytes.specs.Stems.{Stem, is_stem}
use Rattle.chk_site.specs.declared.acts.Role.TheVariants.{Collector}
use Rattle.chk_site.specs.History.{History}
use Rattle.chk_site.specs.Site.{Adds}
use Rattle.chk_site.specs.Runs.{Leads, Owns}
use Rattle.chk_site.proofs.Leads.{leads_then, leads_none}
use Rattle.chk_site.proofs.Runs.{adds_as, adds_both}
use Rattle.chk_chunk.specs.Keys.{Chunk}
use Rattle.chk_http_grammar.specs.Messages.{Ack, ack_of, ack_text, acks_text}
use Rattle.chk_world.specs.Collectors.{Handling, with_appends}
use Rattle.chk_world.specs.Places.{As, IsBy}
use Rattle.chk_sink.specs.declared.fault.SinkFault.{SinkFault}
use Rattle.chk_sink.specs.States.{State, IsSameStart, process}
use Rattle.chk_sink.specs.Held.{Handles, Ready}
use Rattle.chk_collector.specs.Posting.{ArePosted, WroteAll, HasLineEach}
use Rattle.chk_collector.specs.Passing.{LeavesFull, PutsLeaveFull}
use Rattle.chk_collector.proofs.Passing.{full_before, passed_on, runs_before}
use Rattle.chk_collector.proofs.Lines.{acks_text-more, short_more}
use Rattle.chk_collector.proofs.OwnLines.{of_start_more}
use Rattle.chk_collector.specs.OwnLines.{AreOfStart}
use Rattle.chk_collector.proofs.PutSteps.{PutsOne, put_step, tells_on}

-- the chunks before the rest were put, and each has its line
pub record PutSoFar (old now : Option History) (before count : ℕ) (first s : State) (chunks rest : List Chunk) (lines : List ℕ) : Type 0 where
  pub done : List Chunk
  pub whole : chunks ≡ done ++ rest
  pub acks : List Ack
  pub lines_are : lines ≡ acks_text acks
  pub as_many : length acks ≡ length done
  pub short : length lines ≤ 126 * length done
  pub told : (stamped : List (List ℕ)) (handled : List Handling) → ArePosted handled chunks
      → Adds old now (Leads (As stamped (process first)) (Ready stamped first handled) (WroteAll stamped s handled done lines (Ok tt)))
  pub same : IsSameStart first s
  pub puts : Puts (length done) first s
  pub full : PutsLeaveFull first s chunks old now
  pub place : EndsInPlace s acks
  pub of_start : AreOfStart s acks
  pub own : Works (process first) (OfPosts first) None old now
  pub cause : count ≡ before

same_self : (s : State) → IsSameStart s s
same_self s = record { collector = refl; born = refl; rotate = refl; number = omega arith }

pub same_then : (a b c : State) → IsSameStart a b → IsSameStart b c → IsSameStart a c
same_then a b c x y = record {
  collector = y.collector ∙ x.collector;
  born = y.born ∙ x.born;
  rotate = y.rotate ∙ x.rotate;
  number = omega (arith, x.number, y.number);
}

pub no_appends : (handled : List Handling) → handled ≡ map (with_appends []) handled
no_appends [] = refl
no_appends (m ∷ handled) =
    ap (λ l. record { taking = m.taking; bytes = m.bytes; answered = m.answered; newest = m.newest; synced = m.synced; appends = l } ∷ handled)
    (sym (append-nil m.appends))
    ∙ ap (λ l. with_appends [] m ∷ l) (no_appends handled)

one_more : (n : ℕ) → n + 1 ≡ suc n
one_more n = omega arith

-- none yet
pub put_begins : (now : Option History) (n : ℕ) (first s : State) (chunks : List Chunk) (lines : List ℕ) → s ≡ first → lines ≡ []
    → PutSoFar now now n n first s chunks chunks lines
put_begins now n first s chunks lines same none =
    subst (λ (t : State). PutSoFar now now n n first t chunks chunks lines) (sym same)
    (record {
      done = [];
      whole = refl;
      acks = [];
      lines_are = none;
      as_many = refl;
      short = omega (arith, ap length none);
      told = λ stamped handled posted.
          leads_none now
          (λ h x. told_by h (λ handles. record {
            appends = [];
            handles = subst (λ ms. Handles first ms h) (no_appends handled) handles;
            first = tt;
            told = record { acks = []; lines_are = none; tell = tt; each = tt };
          }) x);
      same = same_self first;
      puts = begins;
      full = λ stamped handled posted. leads_none now (λ h x r left. inl left);
      place = tt;
      of_start = tt;
      own = rests;
      cause = refl;
    })

module _ {old now : Option History} {before count : ℕ} {first s : State} {chunks rest : List Chunk} {lines : List ℕ}
    (so_far : PutSoFar old now before count first s chunks rest lines) where
  -- the next one is of the post
  next_is : (c : Chunk) (rest' : List Chunk) → rest ≡ c ∷ rest' → Contains chunks c
  next_is c rest' more =
      subst (λ (l : List Chunk). Contains l c) (sym (so_far.whole ∙ ap (λ l. so_far.done ++ l) more))
      (Contains-append_right so_far.done (c ∷ rest') c (zero, omega arith, refl))

module _ {old now new : Option History} {before count : ℕ} {first s : State} {chunks rest : List Chunk} {lines : List ℕ}
    (so_far : PutSoFar old now before count first s chunks rest lines) where
  -- the process is the same
  by_same : {A B : History → Type 0} → (stamped : List (List ℕ)) → Adds now new (Leads (As stamped (process s)) A B)
      → Adds now new (Leads (As stamped (process first)) A B)
  by_same {A = A} {B = B} stamped told =
      subst (λ (name : List ℕ). Adds now new (Leads (As stamped (record { role = Collector; name = name })) A B)) so_far.same.collector told

  -- the calls so far, and those of the next put
  pub own_on : {fault : Option OutsideFault} → Works (process s) (OfPut s) fault now new → Works (process first) (OfPosts first) fault old new
  own_on own =
      works_then so_far.own
      (works_as (OfPosts first) (λ call may. (length so_far.done, s, so_far.puts, may))
      (made_by (λ i. record { role = Collector; name = so_far.same.collector i }) own))

  -- one more was put, and this is what is told of its line
  put_told : (c : Chunk) (rest' : List Chunk) (x : Stem) (n : ℕ) (s' : State) (lines' : List ℕ) → rest ≡ c ∷ rest' → lines' ≡ lines ++ ack_text (ack_of x n)
      → PutsOne now new s s' c (Ok (x, n)) → (stamped : List (List ℕ)) (handled : List Handling) → ArePosted handled chunks
      → Adds old new (Leads (As stamped (process first)) (Ready stamped first handled)
      (WroteAll stamped s' handled (so_far.done ++ c ∷ []) lines' (Ok tt)))
  put_told c rest' x n s' lines' more line told stamped handled posted =
      leads_then (so_far.told stamped handled posted)
      (by_same stamped
      (put_step stamped handled s s' c (Ok (x, n)) (posted c (next_is so_far c rest' more)) so_far.done [] (so_far.done ++ c ∷ []) refl lines lines' (Ok tt)
      (λ appends later t a. tells_on so_far.done c x n lines lines' appends later line t a) told))

  -- what is told where the puts end with a refusal
  pub put_fails : (c : Chunk) (rest' : List Chunk) (result : Result (Stem × ℕ) SinkFault) (fault : SinkFault) (s' : State) (lines' : List ℕ)
      → rest ≡ c ∷ rest' → PutsOne now new s s' c result → (stamped : List (List ℕ)) (handled : List Handling) → ArePosted handled chunks
      → Adds old new (Leads (As stamped (process first)) (Ready stamped first handled) (WroteAll stamped s' handled chunks lines' (Err fault)))
  put_fails c rest' result fault s' lines' more told stamped handled posted =
      leads_then (so_far.told stamped handled posted)
      (by_same stamped
      (put_step stamped handled s s' c result (posted c (next_is so_far c rest' more)) so_far.done rest' chunks (so_far.whole ∙ ap (λ l. so_far.done ++ l) more)
      lines lines' (Err fault) (λ appends later t a. tt) told))

  -- a sink is abandoned by it only where one was full
  put_full : (c : Chunk) (rest' : List Chunk) (x : Stem) (n : ℕ) (s' : State) → rest ≡ c ∷ rest' → PutsOne now new s s' c (Ok (x, n))
      → GoesOn s s' → PutsLeaveFull first s' chunks old new
  put_full c rest' x n s' more told goes stamped handled posted =
      leads_then
      (adds_both (Leads (As stamped (process first)) (Ready stamped first handled) Both)
      (so_far.told stamped handled posted) (so_far.full stamped handled posted)
      (λ added h x y. record { leads = λ others ready. (x.leads others ready, y.leads others ready); own = x.own }))
      (adds_as (Leads (As stamped (process first)) Both (LeavesFull first s'))
      (by_same stamped (told stamped handled (posted c (next_is so_far c rest' more))))
      (λ added h z. record { leads = λ others both. later added h z.own both; own = z.own }))
    where
      Both : History → Type 0
      Both h = WroteAll stamped s handled so_far.done lines (Ok tt) h × LeavesFull first s h

      later : (added h : History) → Owns (IsBy (process first)) added h → Both h → LeavesFull first s' (added ++ h)
      later added h own both running left =
          let r = runs_before (IsBy (process first)) (λ before step by. by.running) added h own running in
          elim (full_before stamped first s s' so_far.same goes h both.0.legal (both.0.alive r).handles.holds (both.1 r) left) [
            | inl was ↦ inl was
            | inr passed ↦ inr (passed_on added h passed)
          ]

  -- one more
  pub put_on : (c : Chunk) (rest' : List Chunk) (x : Stem) (n count' : ℕ) (s' : State) (lines' : List ℕ)
      → rest ≡ c ∷ rest' → lines' ≡ lines ++ ack_text (ack_of x n) → length (ack_text (ack_of x n)) ≤ 126
      → IsTrue (is_stem x) → n < 2 ^ 64 → PutsOne now new s s' c (Ok (x, n))
      → IsSameStart s s' → GoesOn s s' → IsPlaced s' (x, n) → Works (process s) (OfPut s) None now new
      → count' ≡ count → PutSoFar old new before count' first s' chunks rest' lines'
  put_on c rest' x n count' s' lines' more line short stem wide told same goes placed own cause = record {
    done = so_far.done ++ c ∷ [];
    whole = so_far.whole ∙ (ap (λ l. so_far.done ++ l) more ∙ sym (append_assoc so_far.done (c ∷ []) rest'));
    acks = so_far.acks ++ ack_of x n ∷ [];
    lines_are = line ∙ (ap (λ t. t ++ ack_text (ack_of x n)) so_far.lines_are ∙ acks_text-more so_far.acks (ack_of x n));
    as_many = omega
        (arith, so_far.as_many, length-append so_far.acks (ack_of x n ∷ []), length-append so_far.done (c ∷ []));
    short = short_more lines lines' (ack_text (ack_of x n)) so_far.done c line so_far.short short;
    told = put_told c rest' x n s' lines' more line told;
    same = same_then first s s' so_far.same same;
    puts = subst (λ k. Puts k first s') (sym (length-append so_far.done (c ∷ []) ∙ one_more (length so_far.done))) (goes_on so_far.puts goes);
    full = put_full c rest' x n s' more told goes;
    place = place_more s' so_far.acks x n placed;
    of_start = of_start_more s s' so_far.acks x n same so_far.of_start placed stem wide;
    own = own_on own;
    cause = cause ∙ so_far.cause;
  }

module _ {old now : Option History} {before count : ℕ} {first s : State} {chunks rest : List Chunk} {lines : List ℕ}
    (so_far : PutSoFar old now before count first s chunks rest lines) where
  -- the chunks that were put are fewer than all
  more_chunks : (c : Chunk) (rest' : List Chunk) → rest ≡ c ∷ rest' → length so_far.done < length chunks
  more_chunks c rest' more =
      omega (arith, ap length (so_far.whole ∙ ap (λ l. so_far.done ++ l) more), length-append so_far.done (c ∷ rest'))

  -- a put that was refused ends the post
  pub put_leaves : (c : Chunk) (rest' : List Chunk) → rest ≡ c ∷ rest' → (s' : State) (fault : SinkFault) → LeavesAfterPut s s' fault
      → SpentExactly {T = Stem × ℕ} s (Err fault) → PutsThen (length chunks) first s' fault
  put_leaves c rest' more s' fault leaves spent = record {
    count = length so_far.done;
    reached = s;
    puts = so_far.puts;
    ends = inl (record { few = more_chunks c rest' more; leaves = leaves; spent = spent });
  }

  -- and so does want of memory for its line
  pub put_unwritten : (c : Chunk) (rest' : List Chunk) → rest ≡ c ∷ rest' → (s' : State) → GoesOn s s' → PutsThen (length chunks) first s' NoMemory
  put_unwritten c rest' more s' goes = record {
    count = suc (length so_far.done);
    reached = s';
    puts = goes_on so_far.puts goes;
    ends = inr (record { few = more_chunks c rest' more; wants = refl; same = refl });
  }

module _ {old now : Option History} {before count : ℕ} {first s : State} {chunks rest : List Chunk} {lines : List ℕ}
    (so_far : PutSoFar old now before count first s chunks rest lines) (none : rest ≡ []) where
  all_put : so_far.done ≡ chunks
  all_put = sym (so_far.whole ∙ (ap (λ l. so_far.done ++ l) none ∙ append-nil so_far.done))

  -- all were put
  pub puts_end : Puts (length chunks) first s
  puts_end = subst (λ (l : List Chunk). Puts (length l) first s) all_put so_far.puts

  pub full_end : PutsLeaveFull first s chunks old now
  full_end = so_far.full

  pub lines_end : HasLineEach s chunks lines
  lines_end = record {
    acks = so_far.acks;
    lines_are = so_far.lines_are;
    as_many = so_far.as_many ∙ ap (λ l. length l) all_put;
    short = subst (λ (l : List Chunk). length lines ≤ 126 * length l) all_put so_far.short;
    place = so_far.place;
    of_start = so_far.of_start;
  }

  pub told_end : (stamped : List (List ℕ)) (handled : List Handling) → ArePosted handled chunks
      → Adds old now (Leads (As stamped (process first)) (Ready stamped first handled) (WroteAll stamped s handled chunks lines (Ok tt)))
  told_end stamped handled posted =
      rw all_put at (so_far.told stamped handled posted)
