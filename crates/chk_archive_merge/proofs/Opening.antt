-- Cursors that are put at the first records of their files, one behind the other.
use Rattle.std.proofs.Common.{◌≡◌, ℕ, ◌+◌, ◌<◌, true, false, List, [], ◌∷◌, ◌++◌, length, take, Option, Ok, refl, sym, ◌∙◌, ap, subst}
use Rattle.std.specs.Prelude.{slice_index_or}
use Rattle.std.proofs.lemmas.List.{take_more}
use Rattle.chk_site.specs.Files.{Files}
use Rattle.chk_site.specs.History.{History}
use Rattle.chk_site.specs.Site.{Adds}
use Rattle.chk_site.specs.Runs.{anyhow, Leads}
use Rattle.chk_salvage.specs.Feeding.{IsFed}
use Rattle.chk_record_index.specs.Pieces.{bytes_in}
use Rattle.chk_record_reader.specs.Segments.{HasFiles, SparesFiles}
use Rattle.chk_archive_merge.specs.declared.cursor.Cursor.{Cursor}
use Rattle.chk_archive_merge.specs.Cursors.{StandsBehind, Advanced}
use Rattle.chk_archive_merge.specs.Sides.{IsSide, AreSides}
use Rattle.chk_archive_merge.proofs.Going.{none_gone}
use Rattle.chk_archive_merge.proofs.Onward.{leads_with}

module _ (most : ℕ) (held : Files) where
  first_side : (number : ℕ) (w : List ℕ) (c : Cursor) → StandsBehind (bytes_in (held w)) c [] → IsSide most number (bytes_in (held w)) c []
  first_side number w c stands = record { done = []; stands = stands; chunks = refl; are = refl }

  sides_end : (number : ℕ) (ws : List (List ℕ)) (cs : List Cursor) (w : List ℕ) (c : Cursor) → AreSides most held number ws cs []
      → StandsBehind (bytes_in (held w)) c [] → AreSides most held number (ws ++ w ∷ []) (cs ++ c ∷ []) []
  sides_end number [] [] w c sides stands = (first_side number w c stands, tt)
  sides_end number [] (d ∷ cs) w c sides stands = absurd sides
  sides_end number (v ∷ ws) [] w c sides stands = absurd sides
  sides_end number (v ∷ ws) (d ∷ cs) w c sides stands = (sides.0, sides_end (number + 1) ws cs w c sides.1 stands)

  pub one_opened : (names : List (List ℕ)) (i : ℕ) (name : List ℕ) (cs more : List Cursor) (old new : Cursor) {now mid next : Option History}
      → i < length names → slice_index_or names i name ≡ name → more ≡ cs ++ new ∷ [] → IsFed old.pieces [] → old.whole ≡ false
      → Adds now mid (Leads (anyhow (SparesFiles names)) (HasFiles names held) (λ h. HasFiles names held h × AreSides most held 0 (take i names) cs []))
      → Adds mid next (Leads (anyhow (SparesFiles names)) (HasFiles names held) (Advanced names held name old new (Ok true)))
      → Adds now next (Leads (anyhow (SparesFiles names)) (HasFiles names held) (λ h. HasFiles names held h × AreSides most held 0 (take (i + 1) names) more []))
  one_opened names i name cs more old new low same are fed some so_far told =
      leads_with
      (λ h sides x. (
        x.0,
        subst (λ l. AreSides most held 0 l more []) (sym (take_more names i name low ∙ ap (λ v. take i names ++ v ∷ []) same))
            (subst (λ l. AreSides most held 0 (take i names ++ name ∷ []) l []) (sym are)
            (sides_end 0 (take i names) cs name new sides (x.1 [] (none_gone (bytes_in (held name)) old fed some)))),
      )) so_far told
