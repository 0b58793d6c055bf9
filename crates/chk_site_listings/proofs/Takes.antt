-- Listings that are taken.
use Rattle.std.proofs.Common.{◌≡◌, ℕ, List, get_or, Some, position, remove, ap, ◌∙◌}
use Rattle.std.proofs.lemmas.List.Quantifiers.{position-Some}
use Rattle.std.proofs.lemmas.Option.{slice_get_read}
use Rattle.std.proofs.Common.{length, refl}
use Rattle.chk_site_listings.specs.declared.names.Listing.{Listing}
use Rattle.chk_site_listings.specs.Keeping.{is_of, IsTaken}

-- the first of the folder is removed
pub IsTaken-removed : (items old new : List Listing) (folder : List ℕ) (l : Listing) (i : ℕ)
    → items ≡ old → position (is_of folder) old ≡ Some i → l ≡ get_or items i l
    → new ≡ remove items i → IsTaken old new folder l
IsTaken-removed items old new folder l i same found there left =
    let p = position-Some (is_of folder) old i l found in
    record {
      place = i;
      first = found;
      there = slice_get_read old (length old) i l refl p.0 (there ∙ ap (λ xs. get_or xs i l) same);
      left = left ∙ ap (λ xs. remove xs i) same;
    }
