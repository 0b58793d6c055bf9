-- What the bytes of a target say.
use Rattle.std.proofs.Common.{◌≡◌, ℕ, true, List, [], ◌++◌, length, take, drop, sym, ap, ◌∙◌}
use Rattle.std.specs.Prelude.{bytes_eq}
use Rattle.std.proofs.lemmas.List.{take-append-drop}
use Rattle.std.proofs.lemmas.Slice.Eq.{bytes_eq-Decides}
use Rattle.chk_bytes.specs.Stems.{Stem}
use Rattle.chk_http_grammar.proofs.Apart.{query_text-some}
use Rattle.chk_http.specs.Queries.{IsQuery}

-- what stands behind a prefix
pub behind_prefix : (target front query : List ℕ) → bytes_eq (take (length front) target) front ≡ true
    → query ≡ drop (length front) target → target ≡ front ++ query
behind_prefix target front query same rest =
    sym (take-append-drop (length front) target)
    ∙ (ap (λ t. t
    ++ drop (length front) target) ((bytes_eq-Decides (take (length front) target) front).0 same) ∙ ap (λ t. front ++ t) (sym rest))

-- no stems have an empty text
pub no_empty_query : (stems : List Stem) (text : List ℕ) → IsQuery stems text → text ≡ [] → ⊥
no_empty_query stems text query empty = query_text-some stems query.some query.are (sym query.is ∙ empty)
