use Rattle.chk_ctl_run.proofs.showing.show_from.Goals as goal

pub returns : goal.returns
returns g c = record {
  told = record {
    from = c.course_of-course.result;
    to = c.print_by.new.course;
    is = c.course_of-course.ensures;
    shown = rw (c.folder_of-folder.ensures.text, c.most_of-most.ensures.is) at
        c.print_by.ensures.told;
  };
  own = c.print_by.ensures.own;
  cause = c.print_by.ensures.cause;
}
