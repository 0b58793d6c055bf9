use Rattle.std.proofs.Common.{◌≡◌, ℕ, zero, suc, List, [], ◌∷◌, map, take, refl, ap, ◌∙◌}
use Rattle.chk_record_index.specs.HeadRows.{head_in_row}
use Rattle.chk_record_index.proofs.gather.Heads.truncate.Goals as goal

map_take : {X Y : Type 0} (f : X → Y) (n : ℕ) (xs : List X) → map f (take n xs) ≡ take n (map f xs)
map_take f zero xs = refl
map_take f (suc n) [] = refl
map_take f (suc n) (x ∷ xs) = ap (λ ys. f x ∷ ys) (map_take f n xs)

pub returns : goal.returns
returns c =
    ap (map (head_in_row c.self.inside.origins.items)) c.truncate.ensures.items
    ∙ (map_take (head_in_row c.self.inside.origins.items) c.args.len c.self.inside.rows.items ∙ ap (take c.args.len) c.self.view_is)
