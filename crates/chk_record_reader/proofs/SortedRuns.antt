-- A stream's heads that run keep their order where all heads are put in order.
use Rattle.std.proofs.Common.{◌≡◌, ℕ, ◌<◌, ◌≤◌, Bool, true, false, List, [], ◌∷◌, Some, None, refl, sym, ◌∙◌, subst, arith, if◌then◌else◌, true≢false}
use Rattle.std.specs.Prelude.{filter, nat_lt, nat_eq, nat_le, ◌&&◌, ◌||◌, ◌==◌}
use Rattle.std.proofs.lemmas.Bool.{and_parts, or_from, and_left, and_right, eqb-true, le-ltb, ne_eqb}
use Rattle.std.proofs.lemmas.Option.{none-some}
use Rattle.chk_chunk.specs.Keys.{Stream, same_stream, stream_lt}
use Rattle.chk_world.specs.Books.{End}
use Rattle.chk_world.proofs.Each.{Each}
use Rattle.chk_record_index.specs.Heads.{Head}
use Rattle.chk_record_index.specs.Order.{head_before, in_head_order}
use Rattle.chk_world.proofs.NameTests.{streams_same}
use Rattle.chk_record_index.proofs.Orders.{streams}
use Rattle.chk_record_reader.specs.Courses.{is_head_of, goes_on, first_break}
use Rattle.chk_record_reader.proofs.SortedStream.{Rises, NoneBefore, sorted_keeps}

-- the head has bytes
abbrev pub HasBytes : Head → Type 0
HasBytes h = h.begin < h.key.seq

-- the heads of the stream begin at this place or past it
abbrev BeginsPast : Stream → ℕ → Head → Type 0
BeginsPast s n h = is_head_of s h ≡ true → n ≤ h.begin

-- those behind one that goes on begin where it ends, or past that
pub behind : (s : Stream) (e : End) (n : ℕ) (hs : List Head) → Each HasBytes hs → first_break s e n hs ≡ None → Each (BeginsPast s n) hs
behind s e n [] some fine = tt
behind s e n (h ∷ hs) some fine =
    go (λ m f. behind s e m hs some.1 f) (is_head_of s h) (goes_on e n h) refl refl fine
  where
    later : (m : ℕ) → n ≤ m → (ks : List Head) → Each (BeginsPast s m) ks → Each (BeginsPast s n) ks
    later m less [] all = tt
    later m less (k ∷ ks) all = ((λ is. let a = all.0 is in let z : n ≤ k.begin = omega arith in z), later m less ks all.1)

    go : ((m : ℕ) → first_break s e m hs ≡ None → Each (BeginsPast s m) hs) → (b g : Bool) → is_head_of s h ≡ b → goes_on e n h ≡ g
        → (if b then (if g then first_break s e h.key.seq hs else Some h) else first_break s e n hs) ≡ None
        → Each (BeginsPast s n) (h ∷ hs)
    go rest true true is on fine =
        let p = and_parts (h.key.start == e.start) (h.begin == n && nat_le h.key.seq e.end) on in
        let q = and_parts (h.begin == n) (nat_le h.key.seq e.end) p.1 in
        let at : h.begin ≡ n = eqb-true h.begin n q.0 in
        let has = some.0 in
        ((λ own. let z : n ≤ h.begin = omega arith in z), later h.key.seq (let z : n ≤ h.key.seq = omega arith in z) hs (rest h.key.seq fine))
    go rest true false is on fine = absurd (none-some h (sym fine))
    go rest false g is on fine = ((λ own. absurd (true≢false (sym own ∙ is))), rest n fine)

-- one that begins past the end of another of its stream doesn't come before it
pub not_before : (s : Stream) (h k : Head) → is_head_of s h ≡ true → is_head_of s k ≡ true → HasBytes h → h.key.seq ≤ k.begin → head_before k h ≡ false
not_before s h k mine also some past =
    let same : s ≡ h.key.stream = streams_same s h.key.stream mine in
    let alike : same_stream h.key.stream k.key.stream ≡ true = subst (λ t. same_stream t k.key.stream ≡ true) same also in
    let later = (streams.neither h.key.stream k.key.stream alike).1 in
    or_from (stream_lt k.key.stream h.key.stream)
    (same_stream k.key.stream h.key.stream && (nat_lt k.begin h.begin || (nat_eq k.begin h.begin && nat_lt k.key.seq h.key.seq))) later
    (and_right (same_stream k.key.stream h.key.stream) (nat_lt k.begin h.begin || (nat_eq k.begin h.begin && nat_lt k.key.seq h.key.seq))
    (or_from (nat_lt k.begin h.begin) (nat_eq k.begin h.begin && nat_lt k.key.seq h.key.seq) (le-ltb k.begin h.begin (omega arith))
    (and_left (nat_eq k.begin h.begin) (nat_lt k.key.seq h.key.seq) (ne_eqb k.begin h.begin (λ e. let z : ⊥ = omega arith in z)))))

pub rises : (s : Stream) (e : End) (n : ℕ) (hs : List Head) → Each HasBytes hs → first_break s e n hs ≡ None → Rises head_before (is_head_of s) hs
rises s e n [] some fine = tt
rises s e n (h ∷ hs) some fine = go (λ m f. rises s e m hs some.1 f) (is_head_of s h) (goes_on e n h) refl refl fine
  where
    each_none : (mine : is_head_of s h ≡ true) (ks : List Head) → Each (BeginsPast s h.key.seq) ks → Each (NoneBefore head_before (is_head_of s) h) ks
    each_none mine [] all = tt
    each_none mine (k ∷ ks) all = ((λ also. not_before s h k mine also some.0 (all.0 also)), each_none mine ks all.1)

    go : ((m : ℕ) → first_break s e m hs ≡ None → Rises head_before (is_head_of s) hs) → (b g : Bool) → is_head_of s h ≡ b → goes_on e n h ≡ g
        → (if b then (if g then first_break s e h.key.seq hs else Some h) else first_break s e n hs) ≡ None
        → Rises head_before (is_head_of s) (h ∷ hs)
    go rest true true is on fine = ((λ mine. each_none mine hs (behind s e h.key.seq hs some.1 fine)), rest h.key.seq fine)
    go rest true false is on fine = absurd (none-some h (sym fine))
    go rest false g is on fine = ((λ mine. absurd (true≢false (sym mine ∙ is))), rest n fine)

-- so putting all heads in order leaves the stream's
pub order_keeps : (s : Stream) (e : End) (n : ℕ) (hs : List Head) → Each HasBytes hs → first_break s e n hs ≡ None
    → filter (is_head_of s) (in_head_order hs) ≡ filter (is_head_of s) hs
order_keeps s e n hs some fine = sorted_keeps head_before (is_head_of s) hs (rises s e n hs some fine)
