-- What each part of `salvage` does.
use Rattle.std.specs.Prelude.{◌≡◌, ◌⊎◌, ℕ, ◌<◌, ◌≤◌, Bool, true, false, List, [], ◌∷◌, ◌++◌, length, Result, Ok, Err}
use Rattle.chk_site.specs.declared.acts.Who.{Who}
use Rattle.chk_site.specs.declared.acts.OutsideFault.{OutsideFault}
use Rattle.chk_site.specs.History.{Step, History, Every, IsTheirs}
use Rattle.chk_site.specs.Site.{LastFailed}
use Rattle.chk_site.specs.Runs.{own_acts}
use Rattle.chk_salvage.specs.Front.{Item}
use Rattle.chk_salvage.specs.Readers.{bytes_in, place_in}
use Rattle.chk_salvage.specs.declared.reader.Reader.{Reader}
use Rattle.chk_cmd_salvage.specs.Lines.{IsLine, AreLines}
use Rattle.chk_cmd_salvage.specs.Printing.{said, IsPrint}

-- the line of the first item stands behind what was there, and it has at most 12,360 bytes
pub record HasLine (items left : List Item) (before now : List ℕ) : Type 0 where
  pub item : Item
  pub line : List ℕ
  pub is : IsLine item line
  pub first : items ≡ item ∷ left
  pub behind : now ≡ before ++ line
  pub short : length line ≤ 12360

-- the line of the next item was put there; or there was none, and nothing was
abbrev pub PutNext : List Item → List Item → List ℕ → List ℕ → Bool → Type 0
PutNext items left before now true = HasLine items left before now
PutNext items left before now false = (items ≡ []) × (now ≡ before)

-- the reader reads the same bytes, and where there was an item it has gone on over it
abbrev pub GoesOn : Reader → Reader → Bool → Type 0
GoesOn old new true = (bytes_in new ≡ bytes_in old) × (place_in old < place_in new)
GoesOn old new false = bytes_in new ≡ bytes_in old

-- the step is one of others, or such a print
abbrev pub OnlyPrints : Who → History → Step → Type 0
OnlyPrints who before step = IsTheirs before step ⊎ IsPrint who before step

-- of what was to be printed, this was said, and that is left; after a failure nothing was said
abbrev pub Moves : List ℕ → List ℕ → Result Unit OutsideFault → List ℕ → Type 0
Moves before after (Ok value) text = text ++ after ≡ before
Moves before after (Err fault) text = text ≡ []

-- some prints of what was to be printed, up to what is left
pub record Prints (who : Who) (before after : List ℕ) (result : Result Unit OutsideFault) (added history : History)
    : Type 0 where
  pub moves : Moves before after result (said (own_acts added))
  pub acts : Every (OnlyPrints who) added history
  pub last : LastFailed result added history

-- the text is a front of the lines of these items
pub record IsFrontOf (items : List Item) (text : List ℕ) : Type 0 where
  pub printed : List Item
  pub left : List Item
  pub unsaid : List ℕ
  pub split : items ≡ printed ++ left
  pub lines : AreLines printed (text ++ unsaid)

-- the text is the lines of these items, or after a failure a front of them
abbrev pub SaidItems : List Item → Result Unit OutsideFault → List ℕ → Type 0
SaidItems items (Ok value) text = AreLines items text
SaidItems items (Err fault) text = IsFrontOf items text

-- prints of the lines of these items
pub record PrintsItems (who : Who) (items : List Item) (result : Result Unit OutsideFault) (added history : History)
    : Type 0 where
  pub text : SaidItems items result (said (own_acts added))
  pub acts : Every (OnlyPrints who) added history
  pub last : LastFailed result added history

-- so far, of these items these are left, and the lines of the others were said or are in the buffer
pub record HasSaid (who : Who) (items left : List Item) (buffer : List ℕ) (added history : History) : Type 0 where
  pub printed : List Item
  pub split : items ≡ printed ++ left
  pub lines : AreLines printed (said (own_acts added) ++ buffer)
  pub acts : Every (OnlyPrints who) added history
