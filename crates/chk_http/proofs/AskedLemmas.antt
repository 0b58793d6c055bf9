-- What the places of a head say is what the head says.
use Rattle.std.proofs.Common.{◌≡◌, ℕ, Bool, true, false, cond, List, [], ◌∷◌, take, drop, map, refl, ap, ◌∙◌}
use Rattle.std.specs.Prelude.{codes, bytes_eq, filter}
use Rattle.std.specs.Str.{str_to_ascii_lowercase}
use Rattle.httparse.specs.declared.spans.HeaderSpan.{HeaderSpan}
use Rattle.httparse.specs.Grammar.{Field, RequestHead, field_value}
use Rattle.httparse.specs.Spans.{IsRequestAt, AreFieldsAt, name_and_value}
use Rattle.chk_http_grammar.specs.Heads.{values_named}
use Rattle.chk_http.specs.declared.head.RequestPlaces.{RequestPlaces}
use Rattle.chk_http.specs.HeaderLines.{values_among, values_at}
use Rattle.chk_http.specs.Requests.{Asked, asked_in, asked_at}

among_fields : (name : List ℕ) (fields : List Field)
    → values_among name (map name_and_value fields) ≡ values_named name fields
unfolding values_named
among_fields name [] = refl
among_fields name (f ∷ fields) =
    by_test (bytes_eq (str_to_ascii_lowercase f.name) name) (map name_and_value fields)
    (filter (λ g. bytes_eq (str_to_ascii_lowercase g.name) name) fields) (among_fields name fields)
  where
    by_test : (test : Bool) (lines : List (List ℕ × List ℕ)) (kept : List Field)
        → values_among name lines ≡ map field_value kept
        → map (λ (line : List ℕ × List ℕ). line.1)
        (cond test (name_and_value f ∷ filter (λ line. bytes_eq (str_to_ascii_lowercase line.0) name) lines)
        (filter (λ line. bytes_eq (str_to_ascii_lowercase line.0) name) lines))
        ≡ map field_value (cond test (f ∷ kept) kept)
    by_test true lines kept later = ap (λ l. field_value f ∷ l) later
    by_test false lines kept later = later

-- the values that the spans give are those of the head
pub values_at-fields : (name bytes : List ℕ) (headers : List HeaderSpan) (count : ℕ) (fields : List Field)
    → AreFieldsAt bytes headers count fields
    → values_at name bytes (take count headers) ≡ values_named name fields
unfolding values_at
values_at-fields name bytes headers count fields at = ap (values_among name) at ∙ among_fields name fields

asked_of : List ℕ → List ℕ → List (List ℕ) → List (List ℕ) → List ℕ → Asked
asked_of method target codings lengths behind =
    record { method = method; target = target; codings = codings; lengths = lengths; behind = behind }

pub asked_at-head : (bytes : List ℕ) (p : RequestPlaces) (h : RequestHead) → IsRequestAt bytes p.headers p.spans h
    → asked_at bytes p ≡ asked_in h (drop p.spans.len bytes)
unfolding asked_of
asked_at-head bytes p h at =
    let coded = codes "transfer-encoding" in
    let stated = codes "content-length" in
    let behind = drop p.spans.len bytes in
    let codings = values_at coded bytes (take p.spans.headers p.headers) in
    let lengths = values_at stated bytes (take p.spans.headers p.headers) in
    let target = (asked_at bytes p).target in
    ap (λ m. asked_of m target codings lengths behind) at.method
    ∙ (ap (λ t. asked_of h.method t codings lengths behind) at.path
    ∙ (ap (λ c. asked_of h.method h.target c lengths behind) (values_at-fields coded bytes p.headers p.spans.headers h.fields at.fields)
    ∙ ap (λ l. asked_of h.method h.target (values_named coded h.fields) l behind)
    (values_at-fields stated bytes p.headers p.spans.headers h.fields at.fields)))
