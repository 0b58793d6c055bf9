-- Marked adaptors go back to their committed ends.
use Rattle.std.proofs.Common.{◌≡◌, ◌<◌, ℕ, zero, suc, Bool, true, false, cond, set, List, [], ◌∷◌, length, get_or, refl, sym, subst, ap, ◌∙◌, arith}
use Rattle.std.specs.List.{filter}
use Rattle.std.specs.Prelude.{slice_index}
use Rattle.std.proofs.lemmas.Bool.{eqb-true}
use Rattle.std.proofs.lemmas.List.Elements.{All-filter}
use Rattle.chk_acks.specs.declared.row.Row.{Row}
use Rattle.chk_acks.specs.Rows.{is_of, rows_of}
use Rattle.chk_acks.specs.Resets.{back_to, ends_back, is_gone, is_of_kept, without_rows}
use Rattle.chk_acks.specs.Table.{Table}
use Rattle.chk_acks.specs.Sound.{AreInTurn, BeginsUnmarked, IsSound}
use Rattle.chk_acks.proofs.AdaptorRows.{filter_all, filter_none, filter_swap}
use Rattle.chk_acks.proofs.Sounds.{filter_fewer, turn_as}

-- one adaptor more: a marked one's end is set, another's stays
pub back_more : (n : ℕ) (gone : List Bool) (committed last : List ℕ) → n < length gone
    → length committed ≡ length last → length gone ≡ length last → get_or gone n false ≡ true
    → set (back_to n gone committed last) n (get_or committed n 0) ≡ back_to (suc n) gone committed last
back_more n [] committed last within cs gs is = absurd (omega arith)
back_more n (g ∷ gone) [] last within cs gs is = absurd (omega arith)
back_more n (g ∷ gone) (c ∷ committed) [] within cs gs is = absurd (omega arith)
back_more zero (g ∷ gone) (c ∷ committed) (o ∷ last) within cs gs is = ap (λ b. cond b c o ∷ last) (sym is)
back_more (suc n) (g ∷ gone) (c ∷ committed) (o ∷ last) within cs gs is =
    ap (λ l. cond g c o ∷ l) (back_more n gone committed last (omega arith) (omega arith) (omega arith) is)

pub back_same : (n : ℕ) (gone : List Bool) (committed last : List ℕ) → n < length gone
    → length committed ≡ length last → length gone ≡ length last → get_or gone n false ≡ false
    → back_to n gone committed last ≡ back_to (suc n) gone committed last
back_same n [] committed last within cs gs is = absurd (omega arith)
back_same n (g ∷ gone) [] last within cs gs is = absurd (omega arith)
back_same n (g ∷ gone) (c ∷ committed) [] within cs gs is = absurd (omega arith)
back_same zero (g ∷ gone) (c ∷ committed) (o ∷ last) within cs gs is = ap (λ b. cond b c o ∷ last) (sym is)
back_same (suc n) (g ∷ gone) (c ∷ committed) (o ∷ last) within cs gs is =
    ap (λ l. cond g c o ∷ l) (back_same n gone committed last (omega arith) (omega arith) (omega arith) is)

pub length-back : (n : ℕ) (gone : List Bool) (committed last : List ℕ)
    → length (back_to n gone committed last) ≡ length last
length-back zero gone committed last = refl
length-back (suc n) [] committed last = refl
length-back (suc n) (g ∷ gone) [] last = refl
length-back (suc n) (g ∷ gone) (c ∷ committed) [] = refl
length-back (suc n) (g ∷ gone) (c ∷ committed) (o ∷ last) = ap suc (length-back n gone committed last)

-- the last end of an adaptor after that
pub end_back : (gone : List Bool) (committed last : List ℕ) (i : ℕ) → i < length last
    → length committed ≡ length last → length gone ≡ length last
    → slice_index (ends_back gone committed last) i
    ≡ cond (is_gone gone i) (slice_index committed i) (slice_index last i)
end_back [] committed last i within cs gs = absurd (omega arith)
end_back (g ∷ gone) [] last i within cs gs = absurd (omega arith)
end_back (g ∷ gone) (c ∷ committed) [] i within cs gs = absurd (omega arith)
end_back (g ∷ gone) (c ∷ committed) (o ∷ last) zero within cs gs = refl
end_back (g ∷ gone) (c ∷ committed) (o ∷ last) (suc i) within cs gs =
    end_back gone committed last i (omega arith) (omega arith) (omega arith)

-- a marked adaptor has no row left, another one all of its rows
rows_gone : (gone : List Bool) (adaptor : ℕ) (rows : List Row) → is_gone gone adaptor ≡ true
    → rows_of adaptor (filter (is_of_kept gone) rows) ≡ []
rows_gone gone adaptor rows is =
    filter_swap (is_of adaptor) (is_of_kept gone) (λ _. false)
    (λ row mine. rw (eqb-true row.adaptor adaptor mine, is) refl) rows
    ∙ filter_none (rows_of adaptor rows)

rows_stay : (gone : List Bool) (adaptor : ℕ) (rows : List Row) → is_gone gone adaptor ≡ false
    → rows_of adaptor (filter (is_of_kept gone) rows) ≡ rows_of adaptor rows
rows_stay gone adaptor rows is =
    filter_swap (is_of adaptor) (is_of_kept gone) (λ _. true)
    (λ row mine. rw (eqb-true row.adaptor adaptor mine, is) refl) rows
    ∙ filter_all (rows_of adaptor rows)

-- the table is sound after that
pub sound_reset : (gone : List Bool) (t : Table) → length gone ≡ length t.committed → IsSound t
    → IsSound (without_rows gone t)
sound_reset gone t size sound = record {
  known = All-filter (is_of_kept gone) (λ row. row.adaptor < length t.committed) t.rows sound.known;
  as_many = length-back (length gone) gone t.committed t.last ∙ sound.as_many;
  few = omega (arith, sound.few, filter_fewer (is_of_kept gone) t.rows);
  turn = λ adaptor there. turn adaptor there (is_gone gone adaptor) refl;
  gap = λ adaptor there. gap adaptor there (is_gone gone adaptor) refl;
}
  where
    end : (adaptor : ℕ) → adaptor < length t.committed
        → slice_index (ends_back gone t.committed t.last) adaptor
        ≡ cond (is_gone gone adaptor) (slice_index t.committed adaptor) (slice_index t.last adaptor)
    end adaptor there =
        end_back gone t.committed t.last adaptor (omega (arith, sound.as_many)) (sym sound.as_many)
        (size ∙ sym sound.as_many)

    turn : (adaptor : ℕ) → adaptor < length t.committed → (g : Bool) → is_gone gone adaptor ≡ g
        → AreInTurn (slice_index t.committed adaptor) (rows_of adaptor (filter (is_of_kept gone) t.rows))
        (slice_index (ends_back gone t.committed t.last) adaptor)
    turn adaptor there true is =
        turn_as refl (rows_gone gone adaptor t.rows is)
        (end adaptor there ∙ ap (λ b. cond b (slice_index t.committed adaptor) (slice_index t.last adaptor)) is) refl
    turn adaptor there false is =
        turn_as refl (rows_stay gone adaptor t.rows is)
        (end adaptor there ∙ ap (λ b. cond b (slice_index t.committed adaptor) (slice_index t.last adaptor)) is)
        (sound.turn adaptor there)

    gap : (adaptor : ℕ) → adaptor < length t.committed → (g : Bool) → is_gone gone adaptor ≡ g
        → BeginsUnmarked (rows_of adaptor (filter (is_of_kept gone) t.rows))
    gap adaptor there true is = subst BeginsUnmarked (sym (rows_gone gone adaptor t.rows is)) tt
    gap adaptor there false is =
        subst BeginsUnmarked (sym (rows_stay gone adaptor t.rows is)) (sound.gap adaptor there)
