-- What words may ask for.
use Rattle.std.specs.Prelude.{ℕ, ◌≤◌, Bool, List, map, IsTrue}
use Rattle.chk_bytes.specs.Words.{is_word}
use Rattle.chk_ctl_line.specs.Names.{are_collectors, are_stores, is_path, is_store, most}
use Rattle.chk_ctl_line.specs.declared.commands.AuditWords.{AuditWords}
use Rattle.chk_ctl_line.specs.declared.commands.CatWords.{CatWords}
use Rattle.chk_ctl_line.specs.declared.commands.CheckWords.{CheckWords}
use Rattle.chk_ctl_line.specs.declared.commands.PassedWords.{PassedWords}
use Rattle.chk_ctl_line.specs.declared.commands.Command.{Command}
use Rattle.chk_ctl_line.specs.declared.commands.Command.TheVariants as words
use Rattle.chk_ctl_line.specs.declared.usage.Usage.{Usage}

-- `cat`
pub record CatAsked : Type 0 where
  pub begin : ℕ
  pub follow : Bool
  pub records : Bool
  pub store : List ℕ
  pub source : List ℕ
  pub kind : List ℕ
  pub name : List ℕ

-- `audit`
pub record AuditAsked : Type 0 where
  pub agent : List ℕ
  pub store : List ℕ

-- `check`
pub record CheckAsked : Type 0 where
  pub file : List ℕ
  pub collectors : List (List ℕ)

-- `passed`
pub record PassedAsked : Type 0 where
  pub agent : List ℕ
  pub log : List ℕ

-- a command, or how it is used
pub data Asked : Type 0 where
  Audit : AuditAsked → Asked
  Cat : CatAsked → Asked
  Check : CheckAsked → Asked
  Streams : List ℕ → Asked
  Verify : List ℕ → Asked
  Sum : List ℕ → Asked
  Held : List ℕ → Asked
  HeldIn : List (List ℕ) → Asked
  Passed : PassedAsked → Asked
  Help : Usage → Asked
  Version : Asked

-- the texts that borrowed words lend
abbrev pub cat_of : CatWords → CatAsked
cat_of w = record {
  begin = w.begin;
  follow = w.follow;
  records = w.records;
  store = w.store.now;
  source = w.source.now;
  kind = w.kind.now;
  name = w.name.now;
}

abbrev pub audit_of : AuditWords → AuditAsked
audit_of w = record { agent = w.agent.now; store = w.store.now }

abbrev pub passed_of : PassedWords → PassedAsked
passed_of w = record { agent = w.agent.now; log = w.log.now }

abbrev pub check_of : CheckWords → CheckAsked
check_of w = record { file = w.file.now; collectors = map (λ a. a.now) w.collectors.items }

abbrev pub asked_of : Command → Asked
asked_of (words.Audit w) = Audit (audit_of w)
asked_of (words.Cat w) = Cat (cat_of w)
asked_of (words.Check w) = Check (check_of w)
asked_of (words.Streams store) = Streams store.now
asked_of (words.Verify store) = Verify store.now
asked_of (words.Sum store) = Sum store.now
asked_of (words.Held store) = Held store.now
asked_of (words.HeldIn stores) = HeldIn (map (λ w. w.now) stores.items)
asked_of (words.Passed w) = Passed (passed_of w)
asked_of (words.Help usage) = Help usage
asked_of words.Version = Version

-- what holds of the words of each
abbrev pub IsGood : Asked → Type 0
IsGood (Audit w) = IsTrue (is_store w.agent) × IsTrue (is_path w.store)
IsGood (Cat w) =
    IsTrue (is_store w.store) × IsTrue (is_word w.source) × IsTrue (is_word w.kind)
    × IsTrue (is_word w.name) × (w.begin ≤ most)
IsGood (Check w) = IsTrue (is_word w.file) × IsTrue (are_collectors w.collectors)
IsGood (Streams store) = IsTrue (is_store store)
IsGood (Verify store) = IsTrue (is_store store)
IsGood (Sum store) = IsTrue (is_store store)
IsGood (Held store) = IsTrue (is_store store)
IsGood (HeldIn stores) = IsTrue (are_stores stores)
IsGood (Passed w) = IsTrue (is_store w.agent) × IsTrue (is_word w.log)
IsGood (Help usage) = Unit {0}
IsGood Version = Unit {0}
