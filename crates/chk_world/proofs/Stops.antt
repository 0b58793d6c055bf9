-- What a stop leaves of a sink's files.
use Rattle.std.proofs.Common.{◌≡◌, ℕ, Bool, true, false, ◌||◌, not, List, [], ◌∷◌, length, Option, Some, None, option_map, ap, sym, subst, ◌∙◌, if◌then◌else◌, refl, bytes_eq, true≢false}
use Rattle.std.specs.Prelude.{IsTrue}
use Rattle.std.proofs.lemmas.Bool.{and_parts}
use Rattle.std.proofs.lemmas.Option.{none-some}
use Rattle.chk_bytes.specs.Stems.{Stem}
use Rattle.chk_site.specs.declared.acts.Who.{Who}
use Rattle.chk_site.specs.declared.lists.Left.{Left}
use Rattle.chk_site.specs.Files.{File, Files}
use Rattle.chk_site.specs.Acts.{Deed, Appends, tail_of}
use Rattle.chk_site.specs.Effect.{in_work, with_tail, TailFits}
use Rattle.chk_world.specs.Names.{Name, BornFile, SinkFile, MarkFile, DoneFile, read, spell, file, is_known, owns, owns_open, stop_names}
use Rattle.chk_world.specs.Rules.{Framed, is_fixed}
use Rattle.chk_world.proofs.NameTests.{same_name, name_same, named_test}
use Rattle.chk_world.proofs.Kept.{tail_on_sink, no_tail_fits, marks_whole, shut_whole, absent_map, on_file}
use Rattle.chk_world.proofs.Invariant.{Seen, Inv, weaker}
use Rattle.chk_world.proofs.Own.{InvAt}
use Rattle.chk_world.proofs.OwnSteps.{Known, at_same}

-- after a stop nothing is known of what the collector was at
abbrev pub forgotten : List ℕ → Seen
forgotten wr = record { born = None; made = 0; current = None; wrote = wr }

pub forgets : (x : Stem) (s : Seen) (sink mark shut born : Option File) → Inv x s sink mark shut born → Inv x (forgotten s.wrote) sink mark shut born
forgets x s sink mark shut born = weaker x (forgotten s.wrote) s sink mark shut born
    (record { born = λ b e. absurd (none-some b e); made = λ b e. absurd (none-some b e); current = λ c e. absurd (none-some c e); wrote = refl })

-- no call writes into a fixed file
pub no_work : (who : Who) (files : Files) (call : Deed) (n : Name) → IsTrue (is_known n) → is_fixed n ≡ true → Framed who files call → in_work call (spell n) ≡ 0
no_work who files (Appends w piece) n known fixed framed =
    ap (λ b. if b then length piece else 0) (named_test n known w ∙ apart (same_name n (read w)) refl)
  where
    apart : (b : Bool) → same_name n (read w) ≡ b → b ≡ false
    apart false e = refl
    apart true e =
        absurd (fixed_not (is_fixed (read w)) (ap is_fixed (sym (name_same n (read w) e)) ∙ fixed) (and_parts (owns who (read w)) (not (is_fixed (read w))) framed).1)
      where
        fixed_not : (b : Bool) → b ≡ true → not b ≡ true → ⊥
        fixed_not true p q = true≢false (sym q)
        fixed_not false p q = true≢false (sym p)
no_work who files call n known fixed framed = refl

tailed : (x : Stem) (wr : List ℕ) (sink mark shut born : Option File) (a b c d : Option (List ℕ)) → TailFits 0 b mark → TailFits 0 c shut → TailFits 0 d born
    → Inv x (forgotten wr) sink mark shut born
    → Inv x (forgotten wr) (option_map (with_tail a) sink) (option_map (with_tail b) mark) (option_map (with_tail c) shut) (option_map (with_tail d) born)
tailed x wr sink mark shut born a b c d fb fc fd inv =
    rw (
      no_tail_fits mark b (marks_whole wr sink mark shut inv.files) fb,
      no_tail_fits shut c (shut_whole wr sink mark shut inv.files) fc,
      no_tail_fits born d (on_file born (λ f h. h.0) inv.number) fd,
    ) (record {
      files = tail_on_sink wr sink mark shut a inv.files;
      form = inv.form;
      number = inv.number;
      born_is = inv.born_is;
      unused = λ u. let h = inv.unused u in (absent_map (with_tail a) sink h.0, h.1, h.2);
      unwritten = inv.unwritten;
      holds = λ cur e s. absurd (none-some cur e);
    })

-- the tails of a stop keep the invariant
pub stopped : (x : Stem) (known : Known x) (wr : List ℕ) (who : Who) (files : Files) (call : Deed) (left : List Left) (middle after : Files) → Framed who files call
    → ((w : List ℕ) → (after w ≡ option_map (with_tail (tail_of left w)) (middle w)) × TailFits (in_work call w) (tail_of left w) (middle w))
    → InvAt x (forgotten wr) (λ n. file middle n) → InvAt x (forgotten wr) (λ n. file after n)
stopped x known wr who files call left middle after framed tails inv =
    let m = MarkFile x in
    let d = DoneFile x in
    let b = BornFile x.collector in
    at_same x (forgotten wr) (λ n. file after n) (λ n. option_map (with_tail (tail_of left (spell n))) (file middle n))
    (tails (spell (SinkFile x))).0 (tails (spell m)).0 (tails (spell d)).0 (tails (spell b)).0
    (tailed x wr (file middle (SinkFile x)) (file middle m) (file middle d) (file middle b)
    (tail_of left (spell (SinkFile x))) (tail_of left (spell m)) (tail_of left (spell d)) (tail_of left (spell b))
    (subst (λ k. TailFits k (tail_of left (spell m)) (file middle m)) (no_work who files call m known.stem refl framed) (tails (spell m)).1)
    (subst (λ k. TailFits k (tail_of left (spell d)) (file middle d)) (no_work who files call d known.stem refl framed) (tails (spell d)).1)
    (subst (λ k. TailFits k (tail_of left (spell b)) (file middle b)) (no_work who files call b known.collector refl framed) (tails (spell b)).1) inv)

-- a stop that names none of a process's files leaves no tail of one that is no done sink
pub no_tail : (who : Who) (left : List Left) (n : Name) → IsTrue (is_known n) → owns_open who n ≡ true → stop_names who left ≡ false → tail_of left (spell n) ≡ None
no_tail who [] n known mine none = refl
no_tail who (l ∷ left) n known mine none = go (no_tail who left n known mine) (owns_open who (read l.name)) refl none
  where
    here : owns_open who (read l.name) ≡ false → (b : Bool) → bytes_eq (spell n) l.name ≡ b → (if b then Some l.tail else tail_of left (spell n)) ≡ tail_of left (spell n)
    here other false e = refl
    here other true e =
        absurd (true≢false (sym mine ∙ (ap (owns_open who) (name_same n (read l.name) (sym (named_test n known l.name) ∙ e)) ∙ other)))

    go : (stop_names who left ≡ false → tail_of left (spell n) ≡ None) → (b : Bool) → owns_open who (read l.name) ≡ b → (b || stop_names who left) ≡ false
        → tail_of (l ∷ left) (spell n) ≡ None
    go rest true e k = absurd (true≢false k)
    go rest false e k = here e (bytes_eq (spell n) l.name) refl ∙ rest k

-- a stop can't leave a tail of a done sink
pub done_untailed : (x : Stem) (known : Known x) (s : Seen) (who : Who) (files : Files) (call : Deed) (left : List Left) (middle after : Files)
    → Framed who files call
    → ((w : List ℕ) → (after w ≡ option_map (with_tail (tail_of left w)) (middle w)) × TailFits (in_work call w) (tail_of left w) (middle w))
    → InvAt x s (λ n. file middle n) → file after (DoneFile x) ≡ file middle (DoneFile x)
done_untailed x known s who files call left middle after framed tails inv =
    let d = DoneFile x in
    (tails (spell d)).0
    ∙ no_tail_fits (file middle d) (tail_of left (spell d))
    (shut_whole s.wrote (file middle (SinkFile x)) (file middle (MarkFile x)) (file middle d) inv.files)
    (subst (λ k. TailFits k (tail_of left (spell d)) (file middle d)) (no_work who files call d known.stem refl framed) (tails (spell d)).1)

pub untailed : (o : Option File) (tail : Option (List ℕ)) → tail ≡ None → option_map (with_tail tail) o ≡ o
untailed None tail none = refl
untailed (Some f) tail none = rw none refl
