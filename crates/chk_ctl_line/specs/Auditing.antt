-- What the words of `audit` ask for.
use Rattle.std.specs.Prelude.{ℕ, ◌&&◌, List, codes, if◌then◌else◌, Option, Some, None}
use Rattle.std.specs.Prelude.{option_and_then}
use Rattle.clap.specs.Walk.{first_of, Row}
use Rattle.chk_ctl_line.specs.Commands.{Asked, Audit}
use Rattle.chk_ctl_line.specs.Names.{is_path, is_store}
use Rattle.chk_ctl_line.specs.Options.{plain_of}

-- `audit --agent DIR --store DIR`, and no other words
abbrev pub audit_with : List ℕ → List ℕ → Option (List (List ℕ)) → Option Asked
audit_with agent store None =
    if is_store agent && is_path store
    then Some (Audit (record { agent = agent; store = store })) else None
audit_with agent store (Some plain) = None

abbrev pub asked_audit : List Row → Option Asked
asked_audit rows =
    option_and_then (λ agent. option_and_then (λ store. audit_with agent store (plain_of rows))
    (first_of (codes "store") rows))
    (first_of (codes "agent") rows)
