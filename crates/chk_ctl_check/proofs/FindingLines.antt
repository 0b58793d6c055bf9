-- The line of a finding is one line, and lists in their order.
use Rattle.std.proofs.Common.{◌≡◌, ℕ, suc, ◌+◌, ◌<◌, ◌^◌, List, [], ◌∷◌, length, drop, get_or}
use Rattle.std.proofs.Common.{refl, ap, sym, ◌∙◌, add-one}
use Rattle.std.specs.Prelude.{IsTrue, codes, decimal}
use Rattle.std.proofs.Math.Seq.{drop-cons}
use Rattle.std.proofs.lemmas.List.{get_or_default}
use Rattle.chk_bytes.specs.Words.{lacks}
use Rattle.chk_control.specs.declared.commands.LineFault.{LineFault}
use Rattle.chk_control.specs.declared.commands.LineFault.TheVariants as fault
use Rattle.chk_world.specs.ArchiveRuns.{is_one_line}
use Rattle.chk_cmd_output.proofs.OneLine.{Lack, none, next, number_lacks, words_line}
use Rattle.chk_ctl_check.specs.declared.finding.Finding.{Finding}
use Rattle.chk_ctl_check.specs.declared.trouble.Trouble.{Trouble}
use Rattle.chk_ctl_check.specs.declared.trouble.Trouble.TheVariants.{Refused, NoAdd, StreamInUse}
use Rattle.chk_ctl_check.specs.declared.trouble.Trouble.TheVariants.{NameInUse, RelativePath}
use Rattle.chk_ctl_check.specs.declared.trouble.Trouble.TheVariants.{NoLog}
use Rattle.chk_ctl_check.specs.declared.trouble.Trouble.TheVariants.{Unreadable, RotatedName}
use Rattle.chk_ctl_check.specs.declared.trouble.Trouble.TheVariants.{NumberedName, CompressedName}
use Rattle.chk_ctl_check.specs.Lines.{trouble_line}
use Rattle.chk_ctl_check.specs.Troubles.{refused_name, trouble_name}

refused_lacks : (f : LineFault) → IsTrue (lacks 10 (refused_name f))
refused_lacks fault.Unknown = refl
refused_lacks fault.MissingWord = refl
refused_lacks fault.BadOffset = refl
refused_lacks fault.BadClass = refl
refused_lacks fault.NotUtf8 = refl
refused_lacks fault.LongLine = refl
refused_lacks fault.ExtraWord = refl
refused_lacks fault.BadWord = refl
refused_lacks fault.NoMemory = refl

name_lacks : (t : Trouble) → IsTrue (lacks 10 (trouble_name t))
name_lacks (Refused f) = refused_lacks f
name_lacks NoAdd = refl
name_lacks StreamInUse = refl
name_lacks NameInUse = refl
name_lacks RelativePath = refl
name_lacks NoLog = refl
name_lacks Unreadable = refl
name_lacks RotatedName = refl
name_lacks NumberedName = refl
name_lacks CompressedName = refl

pub trouble_one : (line : ℕ) (t : Trouble) → line < 2 ^ 64
    → IsTrue (is_one_line (trouble_line line t))
trouble_one line t few =
    let all : Lack (codes "line" ∷ decimal line ∷ trouble_name t ∷ []) =
    next refl (next (number_lacks line few) (next (name_lacks t) none)) in
    words_line all

-- the next one of a list, and those behind it
pub next_at : (xs : List Finding) (i : ℕ) (d : Finding) → i < length xs
    → drop i xs ≡ get_or xs i d ∷ drop (i + 1) xs
next_at xs i d low =
    let x : Finding = get_or xs i d in
    drop-cons xs i x low
    ∙ (ap (λ (y : Finding). y ∷ drop (suc i) xs) (get_or_default xs i x d low)
    ∙ ap (λ (k : ℕ). x ∷ drop k xs) (sym (add-one i)))
