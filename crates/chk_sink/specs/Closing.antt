-- What a commit and a close call for, in turn.
use Rattle.std.specs.Prelude.{ℕ, List, [], ◌∷◌, None, Result, Ok, Err}
use Rattle.chk_bytes.specs.Numbers.{be64}
use Rattle.chk_bytes.specs.Stems.{Stem}
use Rattle.chk_site.specs.declared.acts.Who.{Who}
use Rattle.chk_site.specs.declared.acts.Call.TheVariants.{Sync, Rename, Remove}
use Rattle.chk_site.specs.declared.acts.OutsideFault.{OutsideFault}
use Rattle.chk_site.specs.Site.{Asked, asked}
use Rattle.chk_replace.specs.Replace.{replacement}
use Rattle.chk_world.specs.Names.{SinkFile, MarkFile, DoneFile, spell}
use Rattle.chk_sink.specs.declared.current.Current.{Current}
use Rattle.chk_sink.specs.States.{State, with_current, given_up}

-- the sink is synced, and then its mark is replaced by this length
abbrev pub publishing : Who → Stem → ℕ → List Asked
publishing who x size =
    asked who Sync (spell (SinkFile x) ∷ []) 0 0 ∷ replacement who (spell (MarkFile x)) (be64 size)

-- the sink becomes a done one, and then its mark is removed
abbrev pub closing : Who → Stem → List Asked
closing who x =
    asked who Rename (spell (SinkFile x) ∷ spell (DoneFile x) ∷ []) 0 0
    ∷ asked who Remove (spell (MarkFile x) ∷ []) 0 0
    ∷ []

-- after those calls: nothing is written to where they were done, and else the sink is abandoned
abbrev pub left_where_done : State → Result (Unit {0}) OutsideFault → State
left_where_done s (Ok value) = with_current s None
left_where_done s (Err fault) = given_up s

-- the sink, with a mark that says all of it
abbrev pub current_all_marked : Current → Current
current_all_marked c = record {
  stem = c.stem;
  marker = c.marker;
  size = c.size;
  sync_end = c.sync_end;
  marked = c.size;
  seen = c.seen;
}
