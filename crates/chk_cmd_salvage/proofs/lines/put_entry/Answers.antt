use Rattle.std.proofs.Common.{codes, decimal, [], ◌∷◌}
use Rattle.std.proofs.lemmas.Result.{on_ok_weaker}
use Rattle.chk_cmd_salvage.proofs.Texts.{entry_parts}
use Rattle.chk_cmd_salvage.proofs.lines.put_entry.Goals as goal

pub returns : goal.returns
returns c =
    let r = c.args.entry.now in
    let k = c.args.key.now in
    on_ok_weaker c.push_all-2.result
    (λ e. entry_parts c.args.out.now _ _ _ _ _ _ _ (codes "entry ") (decimal r.at) (32 ∷ decimal r.end)
    (32 ∷ k.source.now) (32 ∷ k.kind.now) (32 ∷ k.name.now) (32 ∷ []) (decimal k.seq) (10 ∷ [])
    c.in_ok-put_places.ensures c.in_ok-put_text.ensures c.in_ok-put_text-2.ensures c.in_ok-put_text-3.ensures
    (rw c.as_slice.ensures at c.in_ok-push_all.ensures.ok) c.in_ok-put_decimal.ensures.ok (rw c.as_slice-2.ensures at e))
    c.push_all-2.ensures.ok
