-- The values of header lines, looked up by name in whatever case it is written.
use Rattle.std.specs.Prelude.{◌≡◌, ℕ, ◌≤◌, List, [], ◌∷◌, length, map, filter, bytes_eq}
use Rattle.std.specs.Str.{str_to_ascii_lowercase}
use Rattle.httparse.specs.declared.spans.HeaderSpan.{HeaderSpan}
use Rattle.httparse.specs.Spans.{header_bytes}
use Rattle.chk_http.specs.declared.header_lines.Named.{Named}
use Rattle.chk_http.specs.declared.header_lines.Named.TheVariants.{Nothing, One, Several}

-- the values of this name among pairs of a name and a value
abbrev pub values_among : List ℕ → List (List ℕ × List ℕ) → List (List ℕ)
values_among name lines =
    map (λ line. line.1) (filter (λ line. bytes_eq (str_to_ascii_lowercase line.0) name) lines)

-- the values of this name in the lines of a head
unfoldable pub values_at : List ℕ → List ℕ → List HeaderSpan → List (List ℕ)
values_at name bytes headers = values_among name (map (header_bytes bytes) headers)

-- how many values there are, and the one where there is one
abbrev pub AreNamed : List (List ℕ) → Named → Type 0
AreNamed values Nothing = values ≡ []
AreNamed values (One value) = values ≡ value.now ∷ []
AreNamed values Several = 2 ≤ length values
