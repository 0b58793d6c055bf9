use Rattle.std.proofs.Common.{◌≡◌, ℕ, ◌-◌, ◌≤◌, Bool, true, false, List, [], ◌++◌, length, take, drop, ap, sym, subst, ◌∙◌, arith}
use Rattle.std.proofs.lemmas.List.{length-drop, take_rest}
use Rattle.chk_chunk.specs.Keys.{record_limit}
use Rattle.chk_demux_split.specs.LineFronts.{GoesOn}
use Rattle.chk_demux_split.specs.Splitting.{Feeds, complete_size}
use Rattle.chk_demux_split.specs.SplitterFields.{splitter_view, IsSoundSplitter}
use Rattle.chk_demux_split.specs.declared.splitter.Splitter.TheInside.{Inside}
use Rattle.chk_demux_split.proofs.Stepping.{made, feed_open, feed_ended, feed_sizes}
use Rattle.chk_demux_split.proofs.splitter.Splitter.feed.Goals as goal

-- what is held without what was given
abbrev kept : Inside → List ℕ
kept q = drop q.given q.held.items

-- a sound splitter, the bytes that the line took, and what is held with them
module _ (q : Inside) (sound : IsSoundSplitter q) (a held : List ℕ)
    (held_is : held ≡ drop q.given q.held.items ++ a) where
  within : q.begun ≤ length (kept q)
  within =
      let left = length-drop q.given q.held.items in
      let inside = sound.within in omega (arith, left, inside)

  few : q.begun ≤ record_limit
  few = sound.begun

  opened : GoesOn (drop q.begun (kept q)) a false
      → Feeds (splitter_view q) (made q.by_stamps [] (take q.begun held) (drop q.begun held)) a
  opened on =
      subst (λ l. Feeds (splitter_view q)
      (made q.by_stamps [] (take q.begun l) (drop q.begun l)) a) (sym held_is)
      (feed_open q.by_stamps (take q.given q.held.items) (kept q) a q.begun within few sound.plain on)

  ended : (g n : ℕ) → g ≡ complete_size q.by_stamps (take q.begun held) (drop q.begun held)
      → n ≡ length held → GoesOn (drop q.begun (kept q)) a true
      → Feeds (splitter_view q)
      (made q.by_stamps (take g held) (take (n - g) (drop g held)) (drop (n - g) (drop g held))) a
  ended g n is size on =
      subst (λ m. Feeds (splitter_view q)
      (made q.by_stamps (take g held) (take (m - g) (drop g held)) (drop (m - g) (drop g held))) a)
      (sym size)
      (subst (λ l. Feeds (splitter_view q)
      (made q.by_stamps (take g l) (take (length l - g) (drop g l))
      (drop (length l - g) (drop g l))) a) (sym held_is)
      (feed_ended q.by_stamps (take q.given q.held.items) (kept q) a q.begun within few sound.plain g
      (is ∙ ap (λ l. complete_size q.by_stamps (take q.begun l) (drop q.begun l)) held_is) on))

  sizes_of : (g : ℕ) → g ≡ complete_size q.by_stamps (take q.begun held) (drop q.begun held)
      → GoesOn (drop q.begun (kept q)) a true
      → (g ≤ length held) × (length held - g ≤ record_limit)
      × (q.by_stamps ≡ false → length held - g ≡ 0)
  sizes_of g is on =
      subst (λ l. (g ≤ length l) × (length l - g ≤ record_limit)
      × (q.by_stamps ≡ false → length l - g ≡ 0)) (sym held_is)
      (feed_sizes q.by_stamps (take q.given q.held.items) (kept q) a q.begun within few sound.plain g
      (is ∙ ap (λ l. complete_size q.by_stamps (take q.begun l) (drop q.begun l)) held_is) on.most)

goes_on : (d h a : List ℕ) (b : ℕ) (e t : Bool) → d ≡ h → e ≡ t
    → GoesOn (take (length d - b) (drop b d)) a e → GoesOn (drop b h) a t
goes_on d h a b e t same is on =
    subst (λ l. GoesOn (drop b l) a t) same
    (subst (λ l. GoesOn l a t) (take_rest d b)
    (subst (λ e. GoesOn (take (length d - b) (drop b d)) a e) is on))

pub overflow_sub-self : goal.overflow_sub-self
overflow_sub-self c =
    let q = c.self.inside in
    let a = take c.line_front-front.result.taken c.args.bytes.now in
    let held = c.extend_from_slice.new.self.items in
    let held_is : held ≡ drop q.given q.held.items ++ a =
    c.in_ok-extend_from_slice.ensures.items ∙ ap (λ l. l ++ a) c.drop_first.ensures in
    let on = goes_on c.deref.result.now (drop q.given q.held.items) a q.begun _ true
    (c.deref.ensures.value ∙ c.drop_first.ensures) c.if-front.true
    c.line_front-front.ensures.front in
    let size : c.len.result ≡ length held =
    c.len.ensures ∙ sym c.deref-then-front.ensures.len
    ∙ ap length c.deref-then-front.ensures.value in
    let known = sizes_of q c.self.invariant a held held_is c.complete_size-self-inside.result
    (c.complete_size-self-inside.ensures
    ∙ ap (λ l. complete_size q.by_stamps (take q.begun l) (drop q.begun l))
    c.deref-then-front.ensures.value) on in
    omega (arith, known.0, size)

pub invariant_of-self-then-front : goal.invariant_of-self-then-front
invariant_of-self-then-front c =
    let q = c.self.inside in
    let a = take c.line_front-front.result.taken c.args.bytes.now in
    let held = c.extend_from_slice.new.self.items in
    let held_is : held ≡ drop q.given q.held.items ++ a =
    c.in_ok-extend_from_slice.ensures.items ∙ ap (λ l. l ++ a) c.drop_first.ensures in
    let on = goes_on c.deref.result.now (drop q.given q.held.items) a q.begun _ true
    (c.deref.ensures.value ∙ c.drop_first.ensures) c.if-front.true
    c.line_front-front.ensures.front in
    let size : c.len.result ≡ length held =
    c.len.ensures ∙ sym c.deref-then-front.ensures.len
    ∙ ap length c.deref-then-front.ensures.value in
    let known = sizes_of q c.self.invariant a held held_is c.complete_size-self-inside.result
    (c.complete_size-self-inside.ensures
    ∙ ap (λ l. complete_size q.by_stamps (take q.begun l) (drop q.begun l))
    c.deref-then-front.ensures.value) on in
    record {
      within = omega (arith, known.0, size);
      begun = omega (arith, known.1, size);
      line = omega (arith, known.0, size);
      plain = λ e. omega (arith, known.2 e, size);
    }

pub returns-then-front-clause-fed : goal.returns-then-front-clause-fed
returns-then-front-clause-fed c =
    let q = c.self.inside in
    let a = take c.line_front-front.result.taken c.args.bytes.now in
    let held = c.extend_from_slice.new.self.items in
    let g = c.complete_size-self-inside.result in
    let n = c.len.result in
    let held_is : held ≡ drop q.given q.held.items ++ a =
    c.in_ok-extend_from_slice.ensures.items ∙ ap (λ l. l ++ a) c.drop_first.ensures in
    let on = goes_on c.deref.result.now (drop q.given q.held.items) a q.begun _ true
    (c.deref.ensures.value ∙ c.drop_first.ensures) c.if-front.true
    c.line_front-front.ensures.front in
    let size : n ≡ length held =
    c.len.ensures ∙ sym c.deref-then-front.ensures.len
    ∙ ap length c.deref-then-front.ensures.value in
    subst (λ s. Feeds s
    (made q.by_stamps (take g held) (take (n - g) (drop g held)) (drop (n - g) (drop g held))) a)
    c.self.view_is
    (ended q c.self.invariant a held held_is g n
    (c.complete_size-self-inside.ensures
    ∙ ap (λ l. complete_size q.by_stamps (take q.begun l) (drop q.begun l))
    c.deref-then-front.ensures.value) size on)

pub returns-else-front-clause-fed : goal.returns-else-front-clause-fed
returns-else-front-clause-fed c =
    let q = c.self.inside in
    let a = take c.line_front-front.result.taken c.args.bytes.now in
    let held = c.extend_from_slice.new.self.items in
    let held_is : held ≡ drop q.given q.held.items ++ a =
    c.in_ok-extend_from_slice.ensures.items ∙ ap (λ l. l ++ a) c.drop_first.ensures in
    let on = goes_on c.deref.result.now (drop q.given q.held.items) a q.begun _ false
    (c.deref.ensures.value ∙ c.drop_first.ensures) c.if-front.false
    c.line_front-front.ensures.front in
    subst (λ s. Feeds s (made q.by_stamps [] (take q.begun held) (drop q.begun held)) a)
    c.self.view_is (opened q c.self.invariant a held held_is on)
