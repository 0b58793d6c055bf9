-- The lines of a settle: those that are noted as past, and when two lists of lines are the same.
use Rattle.std.proofs.Common.{◌≡◌, ℕ, zero, suc, ◌+◌, ◌≤◌, ◌<◌, Bool, true, false, ◌==◌, not, List}
use Rattle.std.proofs.Common.{[], ◌∷◌, ◌++◌, length, take, map, Some, Option, None, ap, sym, ◌∙◌}
use Rattle.std.proofs.Common.{refl, arith, true≢false, eqb-true, eq-eqb, bytes_eq}
use Rattle.std.specs.Prelude.{slice_get, slice_index, slice_set}
use Rattle.std.proofs.lemmas.Option.{same_Some, none-some}
use Rattle.std.proofs.lemmas.Bool.{and_parts, and_from}
use Rattle.chk_control.specs.declared.Class.{Class}
use Rattle.chk_control.specs.declared.Class.TheVariants.{Plain, Rotating, Lines}
use Rattle.chk_control.specs.Classes.{same_class}
use Rattle.chk_tail.specs.Walks.{Spot}
use Rattle.chk_world.specs.Checkpoints.{Line}
use Rattle.chk_world.proofs.Ends.{bytes_same, bytes_self}
use Rattle.chk_agent_adaptor.specs.Adaptors.{Adaptor, is_past, line_at, phase_at, settled_one}
use Rattle.chk_agent.specs.States.{lines_at}
use Rattle.chk_agent.specs.Settles.{settled_all}
use Rattle.chk_agent.specs.Within.{same_suffix, same_truth, same_place, place_in, same_kind}
use Rattle.chk_agent.specs.Within.{same_words, same_line}
use Rattle.chk_checkpoint.specs.declared.CheckLine.{CheckLine}
use Rattle.chk_checkpoint.specs.Lines.{shown}
use Rattle.chk_agent.proofs.Soundness.{at_map, size_map, size_lines}
use Rattle.chk_agent.proofs.SettlingSound.{place_forgotten}

-- ---- the same line

same_class_is : (a b : Class) → same_class a b ≡ true → a ≡ b
same_class_is Plain Plain e = refl
same_class_is Rotating Rotating e = refl
same_class_is Lines Lines e = refl
same_class_is Plain Rotating e = absurd (true≢false (sym e))
same_class_is Plain Lines e = absurd (true≢false (sym e))
same_class_is Rotating Plain e = absurd (true≢false (sym e))
same_class_is Rotating Lines e = absurd (true≢false (sym e))
same_class_is Lines Plain e = absurd (true≢false (sym e))
same_class_is Lines Rotating e = absurd (true≢false (sym e))

class_self : (a : Class) → same_class a a ≡ true
class_self Plain = refl
class_self Rotating = refl
class_self Lines = refl

suffix_is : (a b : Option (List ℕ)) → same_suffix a b ≡ true → a ≡ b
suffix_is None None e = refl
suffix_is (Some a) (Some b) e = ap (λ k. Some k) (bytes_same a b e)
suffix_is None (Some b) e = absurd (true≢false (sym e))
suffix_is (Some a) None e = absurd (true≢false (sym e))

suffix_self : (a : Option (List ℕ)) → same_suffix a a ≡ true
suffix_self None = refl
suffix_self (Some a) = bytes_self a

truth_is : (a b : Bool) → same_truth a b ≡ true → a ≡ b
truth_is true true e = refl
truth_is false false e = refl
truth_is true false e = absurd (true≢false (sym e))
truth_is false true e = absurd (true≢false (sym e))

truth_self : (a : Bool) → same_truth a a ≡ true
truth_self true = refl
truth_self false = refl

pub same_line_is : (l m : Line) → same_line l m ≡ true → l ≡ m
same_line_is l m is =
    let p = and_parts (same_place (place_in l) (place_in m)) _ is in
    let q = and_parts (same_kind l m) (same_words l m) p.1 in
    let r = and_parts (l.offset == m.offset) _ p.0 in
    let offset = eqb-true l.offset m.offset r.0 in
    let r = and_parts (l.first == m.first) _ r.1 in
    let first = eqb-true l.first m.first r.0 in
    let after = suffix_is l.after m.after r.1 in
    let r = and_parts (same_truth l.live m.live) _ q.0 in
    let live = truth_is l.live m.live r.0 in
    let r = and_parts (l.start == m.start) _ r.1 in
    let start = eqb-true l.start m.start r.0 in
    let class = same_class_is l.class m.class r.1 in
    let r = and_parts (bytes_eq l.name m.name) _ q.1 in
    let name = bytes_same l.name m.name r.0 in
    let r = and_parts (bytes_eq l.kind m.kind) _ r.1 in
    let kind = bytes_same l.kind m.kind r.0 in
    let path = bytes_same l.path m.path r.1 in
    λ i. record {
      live = live i;
      name = name i;
      class = class i;
      kind = kind i;
      path = path i;
      offset = offset i;
      first = first i;
      after = after i;
      start = start i;
    }

pub same_line_self : (l : Line) → same_line l l ≡ true
same_line_self l =
    and_from _ _ (and_from _ _ (eq-eqb l.offset l.offset refl) (and_from _ _ (eq-eqb l.first l.first refl) (suffix_self l.after)))
    (and_from _ _ (and_from _ _ (truth_self l.live) (and_from _ _ (eq-eqb l.start l.start refl) (class_self l.class)))
    (and_from _ _ (bytes_self l.name) (and_from _ _ (bytes_self l.kind) (bytes_self l.path))))

-- ---- the lines that are noted as past

-- the line of an adaptor once it is settled
pub line_settled : (o : ℕ) (a : Adaptor) → line_at o (settled_one o a) ≡ record (line_at o a) { live = not (is_past (phase_at o a.phase)) }
line_settled o a =
    ap (λ (p : Spot). record (line_at o a) { live = not (is_past (phase_at o a.phase)); first = p.first; after = p.after })
    (place_forgotten a.marks o)

-- ---- the adaptors so far

-- the first so many are settled
abbrev pub settled_up : ℕ → List Adaptor → List ℕ → List Adaptor
settled_up zero xs ends = xs
settled_up (suc n) [] ends = []
settled_up (suc n) (a ∷ xs) [] = a ∷ settled_up n xs []
settled_up (suc n) (a ∷ xs) (o ∷ ends) = settled_one o a ∷ settled_up n xs ends

pub all_up : (n : ℕ) (xs : List Adaptor) (ends : List ℕ) → length xs ≤ n → settled_up n xs ends ≡ settled_all xs ends
all_up zero [] ends few = refl
all_up zero (a ∷ xs) ends few = absurd (let z : ⊥ = omega (arith, few) in z)
all_up (suc n) [] ends few = refl
all_up (suc n) (a ∷ xs) [] few = ap (λ rest. a ∷ rest) (all_up n xs [] (omega (arith, few)))
all_up (suc n) (a ∷ xs) (o ∷ ends) few = ap (λ rest. settled_one o a ∷ rest) (all_up n xs ends (omega (arith, few)))

pub size_up : (n : ℕ) (xs : List Adaptor) (ends : List ℕ) → length (settled_up n xs ends) ≡ length xs
size_up zero xs ends = refl
size_up (suc n) [] ends = refl
size_up (suc n) (a ∷ xs) [] = ap suc (size_up n xs [])
size_up (suc n) (a ∷ xs) (o ∷ ends) = ap suc (size_up n xs ends)

-- the next one isn't yet
pub next_up : (n : ℕ) (xs : List Adaptor) (ends : List ℕ) → slice_get (settled_up n xs ends) n ≡ slice_get xs n
next_up zero xs ends = refl
next_up (suc n) [] ends = refl
next_up (suc n) (a ∷ xs) [] = next_up n xs []
next_up (suc n) (a ∷ xs) (o ∷ ends) = next_up n xs ends

pub more_up : (n : ℕ) (xs : List Adaptor) (ends : List ℕ) (a : Adaptor) → n < length ends → slice_get xs n ≡ Some a
    → slice_set (settled_up n xs ends) n (settled_one (slice_index ends n) a) ≡ settled_up (n + 1) xs ends
more_up zero [] ends a below at = absurd (none-some a at)
more_up zero (x ∷ xs) [] a below at = absurd (let z : ⊥ = omega (arith, below) in z)
more_up zero (x ∷ xs) (o ∷ ends) a below at = ap (λ a. settled_one o a ∷ xs) (sym (same_Some x a at))
more_up (suc n) [] ends a below at = absurd (none-some a at)
more_up (suc n) (x ∷ xs) [] a below at = absurd (let z : ⊥ = omega (arith, below) in z)
more_up (suc n) (x ∷ xs) (o ∷ ends) a below at =
    ap (λ rest. settled_one o x ∷ rest) (more_up n xs ends a (omega (arith, below)) at)
    ∙ ap (λ k. settled_up k (x ∷ xs) (o ∷ ends))
    (let z : suc (n + 1) ≡ suc n + 1 = omega arith in z)

pub lines_set : (xs : List Adaptor) (ends : List ℕ) (n : ℕ) (b : Adaptor) → length xs ≤ length ends
    → slice_set (lines_at xs ends) n (line_at (slice_index ends n) b) ≡ lines_at (slice_set xs n b) ends
lines_set [] ends n b few = refl
lines_set (x ∷ xs) [] n b few = absurd (let z : ⊥ = omega (arith, few) in z)
lines_set (x ∷ xs) (o ∷ ends) zero b few = refl
lines_set (x ∷ xs) (o ∷ ends) (suc n) b few = ap (λ rest. line_at o x ∷ rest) (lines_set xs ends n b (omega (arith, few)))

-- ---- the loops over them

at_lines : (xs : List Adaptor) (ends : List ℕ) (n : ℕ) (a : Adaptor) → length xs ≤ length ends → slice_get xs n ≡ Some a
    → slice_get (lines_at xs ends) n ≡ Some (line_at (slice_index ends n) a)
at_lines [] ends n a few at = absurd (none-some a at)
at_lines (x ∷ xs) [] n a few at = absurd (let z : ⊥ = omega (arith, few) in z)
at_lines (x ∷ xs) (o ∷ ends) zero a few at = ap (λ a. Some (line_at o a)) (same_Some x a at)
at_lines (x ∷ xs) (o ∷ ends) (suc n) a few at = at_lines xs ends n a (omega (arith, few)) at

map_set : {X Y : Type 0} (f : X → Y) (xs : List X) (n : ℕ) (x : X) → map f (slice_set xs n x) ≡ slice_set (map f xs) n (f x)
map_set f [] n x = refl
map_set f (y ∷ xs) zero x = refl
map_set f (y ∷ xs) (suc n) x = ap (λ ys. f y ∷ ys) (map_set f xs n x)

-- the line of the next adaptor is noted
pub noted_next : (lines : List CheckLine) (n : ℕ) (xs : List Adaptor) (ends : List ℕ) (y : CheckLine) (a : Adaptor) (live : Bool)
    → map shown lines ≡ lines_at (settled_up n xs ends) ends → length xs ≤ length ends → n < length ends
    → slice_get lines n ≡ Some y → slice_get xs n ≡ Some a → live ≡ not (is_past (phase_at (slice_index ends n) a.phase))
    → map shown (slice_set lines n (record y { live = live })) ≡ lines_at (settled_up (n + 1) xs ends) ends
noted_next lines n xs ends y a live so_far few below there at is =
    let size : length (settled_up n xs ends) ≤ length ends = let s = size_up n xs ends in omega (arith, s, few) in
    let now : shown y ≡ line_at (slice_index ends n) a =
    same_Some (shown y) (line_at (slice_index ends n) a)
    (sym (at_map shown lines n y there) ∙ (ap (λ ls. slice_get ls n) so_far ∙ at_lines (settled_up n xs ends) ends n a size (next_up n xs ends ∙ at))) in
    map_set shown lines n (record y { live = live })
    ∙ (ap (λ ls. slice_set ls n (record (shown y) { live = live })) so_far
    ∙ (ap (λ (l : Line). slice_set (lines_at (settled_up n xs ends) ends) n (record l { live = live })) now
    ∙ (ap (λ live. slice_set (lines_at (settled_up n xs ends) ends) n (record (line_at (slice_index ends n) a) { live = live })) is
    ∙ (ap (λ l. slice_set (lines_at (settled_up n xs ends) ends) n l) (sym (line_settled (slice_index ends n) a))
    ∙ (lines_set (settled_up n xs ends) ends n (settled_one (slice_index ends n) a) size
    ∙ ap (λ ys. lines_at ys ends) (more_up n xs ends a below at))))))

-- the next adaptor is settled
pub settled_next : (now : List Adaptor) (n : ℕ) (xs : List Adaptor) (ends : List ℕ) (a : Adaptor) → now ≡ settled_up n xs ends → n < length ends
    → slice_get now n ≡ Some a → slice_set now n (settled_one (slice_index ends n) a) ≡ settled_up (n + 1) xs ends
settled_next now n xs ends a so_far below at =
    ap (λ ys. slice_set ys n (settled_one (slice_index ends n) a)) so_far
    ∙ more_up n xs ends a below (sym (next_up n xs ends) ∙ (ap (λ ys. slice_get ys n) (sym so_far) ∙ at))

-- as many lines as adaptors
pub lines_many : (lines : List CheckLine) (n : ℕ) (xs : List Adaptor) (ends : List ℕ) → map shown lines ≡ lines_at (settled_up n xs ends) ends
    → length lines ≡ length xs
lines_many lines n xs ends so_far =
    sym (size_map shown lines) ∙ (ap length so_far ∙ (size_lines (settled_up n xs ends) ends ∙ size_up n xs ends))

-- two lists that differ at a place, or are the same so far
pub differ_at : (lines others : List CheckLine) (n : ℕ) (x y : CheckLine) → slice_get lines n ≡ Some x → slice_get others n ≡ Some y
    → same_line (shown x) (shown y) ≡ false → map shown lines ≡ map shown others → ⊥
differ_at lines others n x y at there other same =
    let e : shown x ≡ shown y =
    same_Some (shown x) (shown y) (sym (at_map shown lines n x at) ∙ (ap (λ ls. slice_get ls n) same ∙ at_map shown others n y there)) in
    true≢false (sym (same_line_self (shown x)) ∙ (ap (same_line (shown x)) e ∙ other))

take_more : {X : Type 0} (xs : List X) (n : ℕ) (x : X) → slice_get xs n ≡ Some x → take (n + 1) xs ≡ take n xs ++ x ∷ []
take_more [] n x at = absurd (none-some x at)
take_more (y ∷ xs) zero x at = ap (λ z. z ∷ []) (same_Some y x at)
take_more (y ∷ xs) (suc n) x at =
    ap (λ k. take k (y ∷ xs)) (let z : suc n + 1 ≡ suc (n + 1) = omega arith in z) ∙ ap (λ ys. y ∷ ys) (take_more xs n x at)

map_more : {X Y : Type 0} (f : X → Y) (xs : List X) (x : X) → map f (xs ++ x ∷ []) ≡ map f xs ++ f x ∷ []
map_more f [] x = refl
map_more f (y ∷ xs) x = ap (λ ys. f y ∷ ys) (map_more f xs x)

pub same_next : (lines others : List CheckLine) (n : ℕ) (x y : CheckLine) → slice_get lines n ≡ Some x → slice_get others n ≡ Some y
    → same_line (shown x) (shown y) ≡ true → map shown (take n lines) ≡ map shown (take n others)
    → map shown (take (n + 1) lines) ≡ map shown (take (n + 1) others)
same_next lines others n x y at there is so_far =
    ap (map shown) (take_more lines n x at)
    ∙ (map_more shown (take n lines) x
    ∙ ((λ i. so_far i ++ same_line_is (shown x) (shown y) is i ∷ [])
    ∙ sym (ap (map shown) (take_more others n y there) ∙ map_more shown (take n others) y)))
