-- Reads of logs.
use Rattle.std.proofs.Common.{◌≡◌, ℕ, ◌+◌, ◌<◌, Bool, true, false, List, [], ◌∷◌, ◌++◌, length, map, take, get_or, Option, Some, None, refl, ◌∙◌, ap}
use Rattle.std.specs.Prelude.{if◌then◌else◌}
use Rattle.std.proofs.lemmas.List.{take_more, map_push}
use Rattle.chk_site.specs.Logs.{Generation, newest}
use Rattle.chk_site_mem_store.specs.declared.logs.MemGeneration.{MemGeneration}
use Rattle.chk_site_mem_store.specs.Stored.{generation_of}

-- the newest of generations with one more
newest_push : (gs : List Generation) (g : Generation) → newest (gs ++ g ∷ []) ≡ (if g.deleted then newest gs else Some g.suffix)
newest_push [] g = refl
newest_push (h ∷ gs) g = rw (newest_push gs g) (by g.deleted (newest gs))
  where
    by : (deleted : Bool) (rest : Option (List ℕ))
        → elim (if deleted then rest else Some g.suffix) [ Some s ↦ Some s | None ↦ if h.deleted then None else Some h.suffix ]
        ≡ (if deleted then elim rest [ Some s ↦ Some s | None ↦ if h.deleted then None else Some h.suffix ] else Some g.suffix)
    by true rest = refl
    by false rest = refl

pub newest_more : (rotated : List MemGeneration) (i : ℕ) (d : MemGeneration) → i < length rotated
    → newest (map generation_of (take (i + 1) rotated))
    ≡ (if (get_or rotated i d).deleted then newest (map generation_of (take i rotated)) else Some (get_or rotated i d).suffix)
newest_more rotated i d within =
    let g = get_or rotated i d in
    let split : map generation_of (take (i + 1) rotated) ≡ map generation_of (take i rotated) ++ generation_of g ∷ [] =
    ap (map generation_of) (take_more rotated i d within) ∙ map_push generation_of (take i rotated) g in
    ap newest split ∙ newest_push (map generation_of (take i rotated)) (generation_of g)
