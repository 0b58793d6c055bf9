-- The codes of replies, and their phrases.
use Rattle.std.specs.Prelude.{ℕ, Bool, ◌||◌, ◌==◌, List, [], ◌∷◌, if◌then◌else◌, unwrap_or}
use Rattle.http.specs.StatusCode.{reason_phrase}

-- a code that a collector answers with
abbrev pub is_answer_code : ℕ → Bool
is_answer_code code =
    code == 200
    || (code == 400
    || (code == 404 || (code == 405 || (code == 411 || (code == 413 || code == 503)))))

-- the phrase that the `http` crate gives a code
unfoldable pub phrase_of : ℕ → List ℕ
phrase_of code = unwrap_or (reason_phrase code) []

-- what stands before the stem at this place
abbrev pub separator_at : ℕ → List ℕ
separator_at place = if place == 0 then [] else 38 ∷ []
