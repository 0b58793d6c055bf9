-- Whether two stems are the same is an equivalence.
use Rattle.std.specs.Cmp.{IsEquivalence, IsPartialEquivalence}
use Rattle.std.proofs.lemmas.Cmp.{and_equiv, on_equiv, nat_eq_equiv, nat_list_eq_equiv}
use Rattle.std.specs.Cmp.{partial_equiv_from_equiv}
use Rattle.chk_bytes.specs.Stems.{same_stem}

pub same_stem_equivalence : IsEquivalence same_stem
same_stem_equivalence =
    and_equiv (on_equiv (λ x. x.collector) nat_list_eq_equiv)
    (and_equiv (on_equiv (λ x. x.born) nat_eq_equiv) (on_equiv (λ x. x.number) nat_eq_equiv))

pub same_stem_laws : IsPartialEquivalence same_stem
same_stem_laws = partial_equiv_from_equiv same_stem_equivalence
