-- How a printer ends its connections.
use Rattle.std.specs.Prelude.{Bool, true, false, Option, None, Some}
use Rattle.sink_devices.specs.declared.tcp_dial.End.{End}
use Rattle.sink_devices.specs.declared.tcp_dial.End.TheVariants.{Ended, Failed, Late, Left}

-- the printer ended it in time, where that was waited for: a connection that failed is ended too
abbrev pub is_in_time : End → Option Bool
is_in_time Ended = Some true
is_in_time (Failed error) = Some true
is_in_time Late = Some false
is_in_time Left = None
