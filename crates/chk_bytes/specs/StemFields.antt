-- How a stem is held: its name in 64 bytes, the spare ones 0, and how many of them are used.
use Rattle.std.specs.Prelude.{◌≡◌, ℕ, ◌-◌, List, ◌++◌, length, take, replicate, IsTrue}
use Rattle.std.proofs.Common.{ap, sym, ◌∙◌}
use Rattle.chk_bytes.specs.Stems.{Stem, is_stem}
use Rattle.chk_bytes.specs.declared.stem.Stem.TheInside.{Inside}

-- a name with zeros behind it, 64 bytes in all
abbrev pub padded : List ℕ → List ℕ
padded name = name ++ replicate (64 - length name) 0

-- the stem that the fields hold
abbrev pub stem_view : Inside → Stem
stem_view a = record { collector = take a.used a.letters; born = a.born; number = a.number }

-- the fields that hold a stem
abbrev pub stem_inside : Stem → Inside
stem_inside x = record {
  letters = padded x.collector;
  used = length x.collector;
  born = x.born;
  number = x.number;
}

-- the name is as long as is said, the spare bytes are 0, and the whole is a stem
pub record IsSound (a : Inside) : Type 0 where
  pub used_is : a.used ≡ length (take a.used a.letters)
  pub spare_is : a.letters ≡ padded (take a.used a.letters)
  pub stem : IsTrue (is_stem (stem_view a))

-- the stem gives its fields back
pub stem_inside-stem_view : (a : Inside) → IsSound a → stem_inside (stem_view a) ≡ a
stem_inside-stem_view a sound =
    let held : List ℕ → ℕ → Inside =
    λ letters used. record { letters = letters; used = used; born = a.born; number = a.number } in
    ap (λ letters. held letters (length (take a.used a.letters))) (sym sound.spare_is)
    ∙ ap (held a.letters) (sym sound.used_is)
