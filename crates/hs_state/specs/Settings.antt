-- What the running machine needs of a program.
--     setting_here setting      the setting of the definitions
use Rattle.hs_meaning.specs.Settings as meant
use Rattle.hs_state.specs.declared.setting.Setting.{Setting}

-- with what its references point to
abbrev pub setting_here : Setting → meant.Setting
setting_here its =
    record {
      types = its.types.now;
      globals = its.globals.now;
      literals = its.literals.now;
      routines = its.routines.now;
      same = its.same.now;
      taken = its.taken.now;
      classes = its.classes.now;
    }
