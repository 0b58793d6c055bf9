-- The values of header lines, line by line.
use Rattle.std.proofs.Common.{◌≡◌, ℕ, ◌+◌, ◌<◌, Bool, true, false, List, [], ◌∷◌, ◌++◌, length, get_or, take, map, refl, ap, sym, subst, ◌∙◌}
use Rattle.std.specs.Prelude.{bytes_eq, filter}
use Rattle.std.specs.Str.{str_to_ascii_lowercase}
use Rattle.std.proofs.lemmas.List.{take_more, map-append, append-nil}
use Rattle.std.proofs.lemmas.List.Elements.{filter-append}
use Rattle.std.proofs.lemmas.Bool.{cond-true, cond-false, false_from_ne_true}
use Rattle.std.proofs.lemmas.Slice.Eq.{bytes_eq-Decides}
use Rattle.httparse.specs.declared.spans.HeaderSpan.{HeaderSpan}
use Rattle.httparse.specs.Spans.{header_bytes, span_bytes}
use Rattle.chk_http.specs.declared.header_lines.Named.{Named}
use Rattle.chk_http.specs.HeaderLines.{values_among, values_at, AreNamed}

-- the line has this name
abbrev pub is_named : List ℕ → List ℕ → HeaderSpan → Bool
is_named name bytes h = bytes_eq (str_to_ascii_lowercase (span_bytes bytes h.name)) name

pub values_at-none : (name bytes : List ℕ) → values_at name bytes [] ≡ []
unfolding values_at
values_at-none name bytes = refl

-- one more line: what comes behind the values so far
values_at-more : (name bytes : List ℕ) (hs : List HeaderSpan) (i : ℕ) (d : HeaderSpan) → i < length hs
    → values_at name bytes (take (i + 1) hs)
    ≡ values_at name bytes (take i hs) ++ values_at name bytes (get_or hs i d ∷ [])
unfolding values_at
values_at-more name bytes hs i d inside =
    let front = map (header_bytes bytes) (take i hs) in
    let last = map (header_bytes bytes) (get_or hs i d ∷ []) in
    let test = λ (line : List ℕ × List ℕ). bytes_eq (str_to_ascii_lowercase line.0) name in
    ap (λ l. values_among name (map (header_bytes bytes) l)) (take_more hs i d inside)
    ∙ (ap (values_among name) (map-append (header_bytes bytes) (take i hs) (get_or hs i d ∷ []))
    ∙ (ap (map (λ line. line.1)) (filter-append test front last) ∙ map-append (λ line. line.1) (filter test front) (filter test last)))

values_at-named : (name bytes : List ℕ) (h : HeaderSpan) → is_named name bytes h ≡ true
    → values_at name bytes (h ∷ []) ≡ span_bytes bytes h.value ∷ []
unfolding values_at
values_at-named name bytes h named =
    ap (map (λ (line : List ℕ
    × List ℕ). line.1)) (cond-true (is_named name bytes h) (header_bytes bytes h ∷ []) [] named)

values_at-other : (name bytes : List ℕ) (h : HeaderSpan) → is_named name bytes h ≡ false
    → values_at name bytes (h ∷ []) ≡ []
unfolding values_at
values_at-other name bytes h other =
    ap (map (λ (line : List ℕ
    × List ℕ). line.1)) (cond-false (is_named name bytes h) (header_bytes bytes h ∷ []) [] other)

-- the next line has the name
pub line_taken : (name bytes : List ℕ) (hs : List HeaderSpan) (i : ℕ) (d : HeaderSpan) (found next : Named) (value : List ℕ) → i < length hs
    → str_to_ascii_lowercase name ≡ name
    → str_to_ascii_lowercase (span_bytes bytes (get_or hs i d).name) ≡ str_to_ascii_lowercase name
    → value ≡ span_bytes bytes (get_or hs i d).value
    → ((values : List (List ℕ)) → AreNamed values found → AreNamed (values ++ value ∷ []) next)
    → AreNamed (values_at name bytes (take i hs)) found → AreNamed (values_at name bytes (take (i + 1) hs)) next
line_taken name bytes hs i d found next value inside small same is with_value so_far =
    let h = get_or hs i d in
    let named : is_named name bytes h ≡ true = (bytes_eq-Decides (str_to_ascii_lowercase (span_bytes bytes h.name)) name).1 (same ∙ small) in
    let more = values_at-more name bytes hs i d inside
    ∙ ap (λ vs. values_at name bytes (take i hs)
    ++ vs) (values_at-named name bytes h named ∙ ap (λ v. v ∷ []) (sym is)) in
    subst (λ vs. AreNamed vs next) (sym more) (with_value (values_at name bytes (take i hs)) so_far)

-- the next line has another name
pub line_passed : (name bytes : List ℕ) (hs : List HeaderSpan) (i : ℕ) (d : HeaderSpan) (found : Named) → i < length hs
    → str_to_ascii_lowercase name ≡ name
    → (str_to_ascii_lowercase (span_bytes bytes (get_or hs i d).name) ≡ str_to_ascii_lowercase name → ⊥)
    → AreNamed (values_at name bytes (take i hs)) found → AreNamed (values_at name bytes (take (i + 1) hs)) found
line_passed name bytes hs i d found inside small differs so_far =
    let h = get_or hs i d in
    let lower = str_to_ascii_lowercase (span_bytes bytes h.name) in
    let other : is_named name bytes h ≡ false =
    false_from_ne_true (is_named name bytes h) (λ e. differs ((bytes_eq-Decides lower name).0 e ∙ sym small)) in
    let more = values_at-more name bytes hs i d inside
    ∙ (ap (λ vs. values_at name bytes (take i hs)
    ++ vs) (values_at-other name bytes h other) ∙ append-nil (values_at name bytes (take i hs))) in
    subst (λ vs. AreNamed vs found) (sym more) so_far
