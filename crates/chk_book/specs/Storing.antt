-- The calls that write a segment's file.
use Rattle.std.specs.Prelude.{List, ℕ, [], ◌∷◌}
use Rattle.chk_site.specs.declared.acts.Who.{Who}
use Rattle.chk_site.specs.declared.acts.Call.TheVariants.{Create, Append, Sync, Remove}
use Rattle.chk_site.specs.Site.{Asked, asked}

-- a file is made anew, and the header is appended
abbrev pub beginning : Who → List ℕ → List ℕ → List Asked
beginning who name header =
    asked who Remove (name ∷ []) 0 0
    ∷ asked who Create (name ∷ []) 0 0
    ∷ asked who Append (name ∷ header ∷ []) 0 0
    ∷ []

-- bytes are appended to it
abbrev pub appending : Who → List ℕ → List ℕ → List Asked
appending who name bytes = asked who Append (name ∷ bytes ∷ []) 0 0 ∷ []

-- the last bytes are appended, and it is synced
abbrev pub ending : Who → List ℕ → List ℕ → List Asked
ending who name bytes =
    asked who Append (name ∷ bytes ∷ []) 0 0
    ∷ asked who Sync (name ∷ []) 0 0
    ∷ []
