-- A guest that gets a signal.
use Rattle.session_table.specs.declared.session.Session.{Session}
use Rattle.xom_model.specs.Guest.{session_after_signal}

-- its session then, which is the same for each signal: the number goes into $26 and into the step
abbrev pub at_handler : Session → Session
at_handler s = session_after_signal s 0
