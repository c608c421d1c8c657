use mathlib.Core.Path.{sym, ap, ◌∙◌}
use Rattle.model.specs.Image.{loads}
use Rattle.model.specs.Refusals.{verdict_of}
use Rattle.relisting.specs.Relists.{relists}
use Rattle.relisting.proofs.Again.{no_room, not_loaded}
use Rattle.relisting.proofs.without_room.Goals as goal

pub returns-in-Ok : goal.returns-in-Ok
unfolding relists
returns-in-Ok c =
    no_room c.args.img.now c.args.text c.args.room c.requires (loads c.args.img.now)
    (sym (ap verdict_of c.in-Ok.is) ∙ c.check.ensures)

pub returns-in-Err : goal.returns-in-Err
unfolding relists
returns-in-Err c =
    not_loaded c.args.img.now c.args.text c.args.room (loads c.args.img.now) c.in-Err.field-0
    (sym (ap verdict_of c.in-Err.is) ∙ c.check.ensures)
