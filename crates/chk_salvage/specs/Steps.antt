-- The steps of a reader that is fed.
use Rattle.std.specs.Prelude.{◌≡◌, ℕ, ◌+◌, ◌≤◌, List, take, drop}
use Rattle.chk_seqfile.specs.Entries.{records_of}
use Rattle.chk_salvage.specs.Feeding.{fed_place, fed_limit, fed_marker, IsFed, GivesNone, Stands, Answered}
use Rattle.chk_salvage.specs.declared.pieces.Pieces.{Pieces}
use Rattle.chk_salvage.specs.declared.fed.Fed.{Fed}
use Rattle.chk_salvage.specs.declared.fed.Fed.TheVariants as fed
use Rattle.chk_salvage.specs.declared.fed.Step.{Step}
use Rattle.chk_salvage.specs.declared.fed.Step.TheVariants as step

-- the reader has gone on, over no record
pub record GoesOn (old new : Pieces) : Type 0 where
  pub limit : fed_limit new ≡ fed_limit old
  pub onward : fed_place old ≤ fed_place new
  pub fed : (fed : List ℕ) → IsFed old fed → IsFed new fed
  pub records : (fed : List ℕ) → IsFed old fed → records_of (take (fed_place new) fed) ≡ records_of (take (fed_place old) fed)
  pub stays : (fed : List ℕ) (stop : Fed) → IsFed old fed → GivesNone stop
      → Stands (fed_limit old) fed (fed_marker old) (fed_place old) stop
      → (fed_marker new ≡ fed_marker old) × (fed_place new ≡ fed_place old)

-- the answer that a step stands for
abbrev pub IsShown : Pieces → Step → Fed → Type 0
IsShown p (step.Entry start key value) (fed.Entry e) =
    (e.at + (16 + key + value) ≡ p.place) × (e.end ≡ p.place)
    × (e.key.now ≡ take key (drop (start + 12) p.bytes.items)) × (e.value.now ≡ take value (drop (start + 16 + key) p.bytes.items))
IsShown p (step.Entry start key value) _ = ⊥
IsShown p step.More fed.More = Unit {0}
IsShown p step.More _ = ⊥
IsShown p (step.Header fault) (fed.Header other) = other ≡ fault
IsShown p (step.Header fault) _ = ⊥
IsShown p (step.Damaged why) (fed.Damaged at other) = (at ≡ p.place) × (other ≡ why)
IsShown p (step.Damaged why) _ = ⊥
IsShown p (step.Long need) (fed.Long at other) = (at ≡ p.place) × (other ≡ need)
IsShown p (step.Long need) _ = ⊥

-- where the record lies that a step gives
abbrev pub LiesIn : Step → Pieces → Type 0
LiesIn (step.Entry start key value) p = (start + (16 + key + value) ≡ p.used) × (16 + key + value ≤ p.place)
LiesIn step.More p = Unit {0}
LiesIn (step.Header fault) p = Unit {0}
LiesIn (step.Damaged why) p = Unit {0}
LiesIn (step.Long need) p = Unit {0}

-- a step answers
abbrev pub Stepped : Pieces → Pieces → Step → Type 0
Stepped old new s = (answer : Fed) → IsShown new s answer → Answered old new answer
