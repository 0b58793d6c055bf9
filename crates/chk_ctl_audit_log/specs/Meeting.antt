-- Where bytes and a log that is read beside them part.
use Rattle.std.specs.Prelude.{◌≡◌, ℕ, ◌+◌, ◌<◌, ◌≤◌, List, ◌∷◌, ◌++◌, length, take}
use Rattle.std.specs.Prelude.{Option, Result, Ok, Err}
use Rattle.chk_site.specs.declared.acts.OutsideFault.{OutsideFault}
use Rattle.chk_site.specs.declared.acts.Who.{Who}
use Rattle.chk_site.specs.History.{History}
use Rattle.chk_rotate.specs.Readers.{Reader}
use Rattle.chk_ctl_audit_log.specs.declared.ahead.Ahead.{Ahead}
use Rattle.chk_ctl_audit_log.specs.declared.ahead.Next.{Next}
use Rattle.chk_ctl_audit_log.specs.declared.ahead.Next.TheVariants as next
use Rattle.chk_ctl_audit_log.specs.declared.comparing.Met.{Met}
use Rattle.chk_ctl_audit_log.specs.declared.comparing.Met.TheVariants.{All, Differs, Ends}
use Rattle.chk_ctl_audit_log.specs.Ahead.{EndsThere, LogAt, ReadsOn}

-- The bytes and what was read of the log are the same up to an offset, at which both have a byte,
-- and these differ.
pub record DiffersAt (who : Who) (from : Reader) (bytes : List ℕ) (at : ℕ)
    (before now : Option History) : Type 0 where
  pub front : List ℕ
  pub x : ℕ
  pub xs : List ℕ
  pub y : ℕ
  pub ys : List ℕ
  pub reader : Reader
  pub has : bytes ≡ front ++ x ∷ xs
  pub reads : ReadsOn who from (front ++ y ∷ ys) reader before now
  pub other : x ≡ y → ⊥
  pub place : at ≡ from.read.offset + length front

-- The log has the first of the bytes and no more, and this is the offset behind them.
pub record EndsAt (who : Who) (from : Reader) (bytes : List ℕ) (at : ℕ)
    (before now : Option History) : Type 0 where
  pub front : List ℕ
  pub x : ℕ
  pub xs : List ℕ
  pub has : bytes ≡ front ++ x ∷ xs
  pub ends : EndsThere who from front before now
  pub place : at ≡ from.read.offset + length front

-- bytes that are the same are some of them
abbrev pub IsNext : List ℕ → Result Next OutsideFault → Type 0
IsNext rest (Ok (next.Same n)) = (0 < n) × (n ≤ length rest)
IsNext rest (Ok (next.Differs at)) = Unit {0}
IsNext rest (Ok (next.Ends at)) = Unit {0}
IsNext rest (Err fault) = Unit {0}

-- so it is of bytes of which the first are passed
abbrev pub NextMet : Who → Reader → List ℕ → List ℕ → Ahead → Option History
    → Result Next OutsideFault → Option History → Type 0
NextMet who from passed rest l before (Ok (next.Same n)) now =
    LogAt who from (passed ++ take n rest) l before now
NextMet who from passed rest l before (Ok (next.Differs at)) now =
    DiffersAt who from (passed ++ rest) at before now
NextMet who from passed rest l before (Ok (next.Ends at)) now =
    EndsAt who from (passed ++ rest) at before now
NextMet who from passed rest l before (Err fault) now = Unit {0}

-- so it is where all that follow are compared
abbrev pub RestMet : Who → Reader → List ℕ → List ℕ → Ahead → Option History
    → Result Met OutsideFault → Option History → Type 0
RestMet who from passed rest l before (Ok All) now =
    LogAt who from (passed ++ rest) l before now
RestMet who from passed rest l before (Ok (Differs at)) now =
    DiffersAt who from (passed ++ rest) at before now
RestMet who from passed rest l before (Ok (Ends at)) now =
    EndsAt who from (passed ++ rest) at before now
RestMet who from passed rest l before (Err fault) now = Unit {0}
