use Rattle.std.proofs.Common.{Err, Ok, refl}
use Rattle.chk_site.specs.declared.acts.CallFault.TheVariants.{Failed, NoMemory}
use Rattle.chk_site.specs.declared.acts.Call.TheVariants.{List as list_names}
use Rattle.chk_record_index.specs.declared.fault.JobFault.TheVariants.{Outside}
use Rattle.chk_record_index.specs.declared.fault.JobFault.TheVariants.{NoMemory as no_memory}
use Rattle.chk_ctl_passed.proofs.Owned.{folder_own}
use Rattle.chk_ctl_passed.proofs.agents.all_have_passed.Goals as goal

pub returns-in-Ok-clause-told : goal.returns-in-Ok-clause-told
returns-in-Ok-clause-told g c = record {
  given = Ok c.in-Ok.names.items;
  middle = g.S.Site.told c.list.new.self;
  listed = rw c.requires.job at c.in-Ok.ensures.told;
  each = rw c.as_slice.ensures.value at c.weigh_each.ensures.told;
}

pub returns-in-Err-Failed-clause-told : goal.returns-in-Err-Failed-clause-told
returns-in-Err-Failed-clause-told g c = record {
  given = Err Failed;
  middle = g.S.Site.told c.list.new.self;
  listed =
      rw c.requires.job at (rw c.in-Err-Failed.field-0-is at c.in-Err-Failed.ensures.told);
  each = (refl, refl);
}

pub returns-in-Err-NoMemory-clause-told : goal.returns-in-Err-NoMemory-clause-told
returns-in-Err-NoMemory-clause-told g c = record {
  given = Err NoMemory;
  middle = g.S.Site.told c.list.new.self;
  listed =
      rw c.requires.job at (rw c.in-Err-NoMemory.field-0-is at c.in-Err-NoMemory.ensures.told);
  each = (refl, refl);
}

pub returns-in-Ok-clause-own : goal.returns-in-Ok-clause-own
returns-in-Ok-clause-own g c =
    folder_own c.args.path.now c.weigh_each.result (returns-in-Ok-clause-told g c)

pub returns-in-Err-Failed-clause-own : goal.returns-in-Err-Failed-clause-own
returns-in-Err-Failed-clause-own g c =
    folder_own c.args.path.now (Err (Outside list_names)) (returns-in-Err-Failed-clause-told g c)

pub returns-in-Err-NoMemory-clause-own : goal.returns-in-Err-NoMemory-clause-own
returns-in-Err-NoMemory-clause-own g c =
    folder_own c.args.path.now (Err no_memory) (returns-in-Err-NoMemory-clause-told g c)
