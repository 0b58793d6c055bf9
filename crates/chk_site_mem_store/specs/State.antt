-- What a keeper tells besides its acts: its clock, and the takings that are repeated.
use Rattle.std.specs.Prelude.{ℕ, List, [], ◌∷◌, ◌++◌, map, if◌then◌else◌}
use Rattle.chk_site.specs.declared.acts.ActAnswer.{ActAnswer}
use Rattle.chk_site.specs.declared.acts.ActAnswer.TheVariants.{Done}
use Rattle.chk_site.specs.Acts.{Deed, Pauses, Takes, deed}
use Rattle.chk_site_mem_store.specs.Told.{Kept, disowned}
use Rattle.chk_site_mem_store.specs.Repeating.{Repeating, capped_sum, none_made, noted, own_outside, recounted}

-- the acts, the oldest first; the moment that the clock shows; and the takings that are repeated
pub record State : Type 0 where
  pub kept : List Kept
  pub clock : ℕ
  pub repeats : Repeating

-- how long a call waited: a pause, or a taking that gave nothing
abbrev pub waited : Deed → ActAnswer → ℕ
waited (Pauses ms) (Done words number of) = ms
waited (Takes door wait) (Done [] number of) = wait
waited call answer = 0

-- how long an own act waited
abbrev pub own_wait : Kept → ℕ
own_wait one = if one.own then waited (deed one.act) one.act.answer else 0

-- no act yet, and this script
abbrev pub at_first : List ℕ → State
at_first again = record { kept = []; clock = 0; repeats = none_made again }

-- after one act more: an own one's waiting moves the clock on, and an own taking may be repeated
abbrev pub after : Kept → State → State
after one s =
    record { kept = s.kept ++ one ∷ []; clock = capped_sum s.clock (own_wait one); repeats = noted (own_outside one) s.repeats }

-- started anew with this script: no act so far is own, and the clock goes on
abbrev pub anew : List ℕ → State → State
anew again s = record { kept = map disowned s.kept; clock = s.clock; repeats = recounted again s.repeats }
