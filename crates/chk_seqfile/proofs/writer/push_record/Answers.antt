use Rattle.std.proofs.Common.{◌≡◌, ℕ, ◌+◌, List, ◌++◌, length, append_assoc, ap, ◌∙◌}
use Rattle.std.proofs.lemmas.Result.{on_ok_weaker}
use Rattle.chk_bytes.specs.Numbers.{be32, with_length}
use Rattle.chk_seqfile.proofs.writer.push_record.Goals as goal

-- four parts that were appended one after the other
four_appended : (out a b c d p q r s : List ℕ) → a ≡ out ++ p → b ≡ a ++ q → c ≡ b ++ r → d ≡ c ++ s
    → d ≡ out ++ (p ++ (q ++ (r ++ s)))
four_appended out a b c d p q r s first second third fourth =
    fourth ∙ ap (λ x. x ++ s) (third ∙ ap (λ x. x ++ r) (second ∙ ap (λ x. x ++ q) first))
    ∙ simp append_assoc

pub returns-clause-ok : goal.returns-clause-ok
returns-clause-ok c =
    let key = c.args.key.now in
    let value = c.args.value.now in
    on_ok_weaker c.push_with_length-2.result (λ fourth. four_appended c.args.out.now c.put_u32.new.out c.put_u32-2.new.out
    c.push_with_length.new.out c.push_with_length-2.new.out
    (be32 (8 + length key + length value)) (be32 (4 + length key)) (with_length key) (with_length value)
    c.in_ok-put_u32.ensures.ok c.in_ok-put_u32-2.ensures.ok c.in_ok-push_with_length.ensures.ok fourth) c.push_with_length-2.ensures.ok
