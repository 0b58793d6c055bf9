use Rattle.chk_control.proofs.ClassLemmas.{names_tell_classes}
use Rattle.chk_control.proofs.class_names.law_class_names.Goals as goal

pub returns : goal.returns
returns c = names_tell_classes
