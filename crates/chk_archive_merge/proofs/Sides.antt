-- Cursors beside each other, and the heads behind them.
use Rattle.std.proofs.Common.{◌≡◌, ℕ, zero, suc, ◌+◌, ◌<◌, true, false, List, [], ◌∷◌, ◌++◌, length, get_or, set, refl, sym, ◌∙◌, ap, subst, arith, append-nil, if◌then◌else◌, true≢false}
use Rattle.std.specs.Prelude.{filter, filter_map}
use Rattle.chk_site.specs.Files.{Files}
use Rattle.chk_world.proofs.Each.{Each}
use Rattle.chk_record_index.specs.Feeding.{AreChunks}
use Rattle.chk_record_index.specs.Heads.{Head, head_of, head_at, heads_in}
use Rattle.chk_record_index.specs.Pieces.{bytes_in}
use Rattle.chk_record_index.proofs.FedRecords.{chunks_more, heads_more}
use Rattle.chk_record_reader.specs.Segments.{IsSound}
use Rattle.chk_archive_merge.specs.declared.cursor.Cursor.{Cursor}
use Rattle.chk_archive_merge.specs.Cursors.{StandsBehind, at_record, at_end}
use Rattle.chk_archive_merge.specs.Merges.{IsBehind}
use Rattle.chk_archive_merge.specs.Sides.{is_in, IsSide, AreSides}
use Rattle.chk_archive_merge.proofs.Blocks.{filter_both}
use Rattle.chk_archive_merge.proofs.FileOrder.{is_own, not_own, HaveAll}

module _ (most : ℕ) (held : Files) where
  pub side_at : (number : ℕ) (ws : List (List ℕ)) (cs : List Cursor) (heads : List Head) (i : ℕ) (d : Cursor)
      → i < length ws → AreSides most held number ws cs heads
      → IsSide most (number + i) (bytes_in (held (get_or ws i []))) (get_or cs i d) (filter (is_in (number + i)) heads)
  side_at number [] cs heads i d low sides = absurd (let z : ⊥ = omega (arith, low) in z)
  side_at number (w ∷ ws) [] heads i d low sides = absurd sides
  side_at number (w ∷ ws) (c ∷ cs) heads zero d low sides =
      subst (λ n. IsSide most n (bytes_in (held w)) c (filter (is_in n) heads)) (let e : number ≡ number + 0 = omega arith in e) sides.0
  side_at number (w ∷ ws) (c ∷ cs) heads (suc i) d low sides =
      subst (λ n. IsSide most n (bytes_in (held (get_or ws i []))) (get_or cs i d) (filter (is_in n) heads))
      (let e : number + 1 + i ≡ number + suc i = omega arith in e)
      (side_at (number + 1) ws cs heads i d (omega (arith, low)) sides.1)

  -- a head of an earlier file
  filter_other : (number : ℕ) (heads : List Head) (h : Head) → (number ≡ h.file → ⊥)
      → filter (is_in number) (heads ++ h ∷ []) ≡ filter (is_in number) heads
  filter_other number heads h other =
      filter_both (is_in number) heads (h ∷ [])
      ∙ (ap (λ b. filter (is_in number) heads ++ (if b then h ∷ [] else [])) (not_own number h other)
      ∙ append-nil (filter (is_in number) heads))

  sides_behind : (number : ℕ) (ws : List (List ℕ)) (cs : List Cursor) (heads : List Head) (h : Head) → h.file < number
      → AreSides most held number ws cs heads → AreSides most held number ws cs (heads ++ h ∷ [])
  sides_behind number [] [] heads h low sides = tt
  sides_behind number [] (c ∷ cs) heads h low sides = absurd sides
  sides_behind number (w ∷ ws) [] heads h low sides = absurd sides
  sides_behind number (w ∷ ws) (c ∷ cs) heads h low sides = (
    subst (IsSide most number (bytes_in (held w)) c) (sym (filter_other number heads h (λ e. omega (arith, e, low)))) sides.0,
    sides_behind (number + 1) ws cs heads h (omega (arith, low)) sides.1,
  )

  -- a head more of the file at this place, whose cursor has gone on
  pub sides_more : (number : ℕ) (ws : List (List ℕ)) (cs : List Cursor) (heads : List Head) (h : Head) (i : ℕ) (new : Cursor)
      → i < length ws → h.file ≡ number + i → AreSides most held number ws cs heads
      → IsSide most (number + i) (bytes_in (held (get_or ws i []))) new (filter (is_in (number + i)) heads ++ h ∷ [])
      → AreSides most held number ws (set cs i new) (heads ++ h ∷ [])
  sides_more number [] cs heads h i new low file sides side = absurd (let z : ⊥ = omega (arith, low) in z)
  sides_more number (w ∷ ws) [] heads h i new low file sides side = absurd sides
  sides_more number (w ∷ ws) (c ∷ cs) heads h zero new low file sides side =
      let here : number + 0 ≡ number = omega arith in
      let own : is_in number h ≡ true = subst (λ n. is_in n h ≡ true) (file ∙ here) (is_own h) in (
        subst (IsSide most number (bytes_in (held w)) new)
            (sym (filter_both (is_in number) heads (h ∷ [])
            ∙ ap (λ b. filter (is_in number) heads ++ (if b then h ∷ [] else [])) own))
            (subst (λ n. IsSide most n (bytes_in (held w)) new (filter (is_in n) heads ++ h ∷ [])) here side),
        sides_behind (number + 1) ws cs heads h (omega (arith, file)) sides.1,
      )
  sides_more number (w ∷ ws) (c ∷ cs) heads h (suc i) new low file sides side =
      let on : number + suc i ≡ number + 1 + i = omega arith in (
        subst (IsSide most number (bytes_in (held w)) c) (sym (filter_other number heads h (λ e. omega (arith, e, file)))) sides.0,
        sides_more (number + 1) ws cs heads h i new (omega (arith, low)) (file ∙ on) sides.1
            (subst (λ n. IsSide most n (bytes_in (held (get_or ws i []))) new (filter (is_in n) heads ++ h ∷ [])) on side),
      )

  -- ---- one side

  pub side_more : (number : ℕ) (bytes : List ℕ) (old new : Cursor) (heads : List Head) (c : _) → (s : IsSide most number bytes old heads)
      → (b : IsBehind most bytes c s.done new) → IsSide most number bytes new (heads ++ head_of number b.r.at c ∷ [])
  side_more number bytes old new heads c s b = record {
    done = s.done ++ b.r ∷ [];
    stands = b.stands;
    chunks = chunks_more most b.r c b.is s.done s.chunks;
    are = ap (λ l. l ++ head_of number b.r.at c ∷ []) s.are ∙ sym (heads_more most b.r c b.is number s.done);
  }

  pub side_begun : (number : ℕ) (bytes : List ℕ) (c : Cursor) → StandsBehind bytes c [] → IsSide most number bytes c []
  side_begun number bytes c stands = record { done = []; stands = stands; chunks = refl; are = refl }

  -- a cursor at its end has all heads of its file behind it, which is sound
  side_ended : (number : ℕ) (w : List ℕ) (c : Cursor) (heads : List Head) → c.held ≡ false
      → IsSide most number (bytes_in (held w)) c heads
      → (heads ≡ heads_in most number (bytes_in (held w))) × IsSound most held w
  side_ended number w c heads none s = go s.stands
    where
      go : StandsBehind (bytes_in (held w)) c s.done → (heads ≡ heads_in most number (bytes_in (held w))) × IsSound most held w
      go (at_record r is key value gone) = absurd (true≢false (sym is ∙ none))
      go (at_end is form all) = (
        s.are ∙ ap (filter_map (head_at most number)) (sym all),
        record { form = form; all = subst (AreChunks most) (sym all) s.chunks },
      )

  pub sides_ended : (number : ℕ) (ws : List (List ℕ)) (cs : List Cursor) (heads : List Head)
      → ((k : ℕ) (d : Cursor) → k < length cs → (get_or cs k d).held ≡ false)
      → AreSides most held number ws cs heads → HaveAll most held number ws heads × Each (IsSound most held) ws
  sides_ended number [] cs heads none sides = (tt, tt)
  sides_ended number (w ∷ ws) [] heads none sides = absurd sides
  sides_ended number (w ∷ ws) (c ∷ cs) heads none sides =
      let one = side_ended number w c (filter (is_in number) heads) (none 0 c (omega arith)) sides.0 in
      let rest = sides_ended (number + 1) ws cs heads (λ k d low. none (suc k) d (omega (arith, low))) sides.1 in
      ((one.0, rest.0), (one.1, rest.1))

  -- ---- one file more is opened

  pub sides_push : (number : ℕ) (ws : List (List ℕ)) (cs : List Cursor) (w : List ℕ) (c : Cursor) → AreSides most held number ws cs []
      → StandsBehind (bytes_in (held w)) c [] → AreSides most held number (ws ++ w ∷ []) (cs ++ c ∷ []) []
  sides_push number [] [] w c sides stands = (side_begun number (bytes_in (held w)) c stands, tt)
  sides_push number [] (d ∷ cs) w c sides stands = absurd sides
  sides_push number (v ∷ ws) [] w c sides stands = absurd sides
  sides_push number (v ∷ ws) (d ∷ cs) w c sides stands = (sides.0, sides_push (number + 1) ws cs w c sides.1 stands)

  pub sides_count : (number : ℕ) (ws : List (List ℕ)) (cs : List Cursor) (heads : List Head) → AreSides most held number ws cs heads
      → length cs ≡ length ws
  sides_count number [] [] heads sides = refl
  sides_count number [] (c ∷ cs) heads sides = absurd sides
  sides_count number (w ∷ ws) [] heads sides = absurd sides
  sides_count number (w ∷ ws) (c ∷ cs) heads sides = ap suc (sides_count (number + 1) ws cs heads sides.1)
