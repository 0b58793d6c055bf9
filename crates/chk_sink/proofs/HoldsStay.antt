-- What the collector knows of its sinks stays over the steps of others, and over its own calls that change no file.
use Rattle.std.proofs.Common.{◌≡◌, ℕ, Bool, true, false, List, ◌∷◌, Option, Some, None, refl, sym, true≢false, is_some}
use Rattle.std.specs.Prelude.{IsTrue, length}
use Rattle.std.proofs.lemmas.Option.{none-some}
use Rattle.chk_bytes.specs.Stems.{is_stem}
use Rattle.chk_site.specs.Files.{File}
use Rattle.chk_site.specs.History.{History, files_after}
use Rattle.chk_world.specs.Committed.{HasFile}
use Rattle.chk_world.specs.Collectors.{view}
use Rattle.chk_world.specs.Rules.{Legal}
use Rattle.chk_world.proofs.PlacesStay.{Stays}
use Rattle.chk_sink.specs.States.{State, Writing, process, last_stem}
use Rattle.chk_sink.specs.Held.{IsAsKept, Holds}
use Rattle.chk_sink.proofs.Holding.{HasStem, holds_alike, foreign_alike}
use Rattle.chk_sink.proofs.NoStem.{no_stem_sink}

-- the sink that is written to has a good stem, as its file shows
pub has_stem : (stamped : List (List ℕ)) (s : State) (history : History) → Legal stamped history → Holds s history → HasStem s
has_stem stamped s history legal h = go s.current h.writing
  where
    there : (o : Option File) → HasFile o (λ f. length f.bytes ≡ length f.bytes) → o ≡ None → ⊥
    there None has none = has
    there (Some f) has none = none-some f (sym none)

    any : (n : ℕ) (o : Option File) → HasFile o (λ f. length f.bytes ≡ n) → HasFile o (λ f. length f.bytes ≡ length f.bytes)
    any n None has = has
    any n (Some f) has = refl

    go : (o : Option Writing) → IsAsKept (last_stem s) (view (process s) history) (files_after history) o → is_some o ≡ true → IsTrue (is_stem (last_stem s))
    go None kept e = absurd (true≢false (sym e))
    go (Some o) kept e = good (is_stem (last_stem s)) refl
      where
        good : (b : Bool) → is_stem (last_stem s) ≡ b → IsTrue b
        good true is = refl
        good false is = absurd (there _ (any o.size _ kept.size) (no_stem_sink stamped history legal (last_stem s) is))

pub holds_stay : (stamped : List (List ℕ)) (s : State) → Stays stamped (process s) (Holds s)
holds_stay stamped s history step legal f h =
    holds_alike s history (step ∷ history) (has_stem stamped s history legal h) (foreign_alike stamped s history step f) h
