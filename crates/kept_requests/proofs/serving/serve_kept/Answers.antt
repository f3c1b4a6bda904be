use Rattle.kept_requests.proofs.Course.{served_kept}
use Rattle.kept_requests.proofs.serving.serve_kept.Goals as goal

pub returns : goal.returns
returns g c = served_kept g.Q.Requests.carries g.Q.Parks.beside g.F.Folder.seen g.F.Folder.may_leave g.F.Folder.moment g.F.Folder.left_since g.F.Folder.may_lack c.args.sender g.Q.Requests.ends _ _ _ c.requires c.serve_by.ensures
