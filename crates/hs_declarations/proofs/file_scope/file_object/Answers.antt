use Rattle.std.proofs.Common.{rules, ◌≡◌, option_map, option_copied, subst}
use Rattle.hs_declarations.specs.Declarations.{is_static, file_object_as}
use Rattle.hs_linkage.specs.Works.{Works}
use Rattle.hs_syntax.specs.Views.{view_initialiser}
use Rattle.hs_declarations.proofs.file_scope.file_object.Goals as goal

-- by the storage word
pub returns : goal.returns
returns c =
    let static : c.is_static.result ≡ is_static c.args.storage = search rules in
    subst
    (λ internal. Works {A = Unit {0}} {B = Unit {0}} (λ it. it) c.file_object_as.new.m
    (file_object_as internal c.args.storage c.args.word.now c.args.id (option_map view_initialiser (option_copied c.args.it)) c.args.m.now)
    c.file_object_as.result) static c.file_object_as.ensures
