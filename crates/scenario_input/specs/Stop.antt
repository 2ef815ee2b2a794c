-- Why an input is not played, as the layers below say it and as the command does.
use Rattle.scenario_text.specs.declared.fault.ReadFault.{ReadFault}
use Rattle.scenario_text.specs.declared.fault.ReadFault.TheVariants as text
use Rattle.scenario_input.specs.declared.stop.Stop.{Stop}
use Rattle.scenario_input.specs.declared.stop.Stop.TheVariants as stop
use Rattle.scenario_input.specs.declared.status.Status.{Status}
use Rattle.scenario_input.specs.declared.status.Status.TheVariants as status

abbrev pub stop_of : ReadFault → Stop
stop_of (text.Bad line kind) = stop.BadScenario line kind
stop_of text.OutOfMemory = stop.OutOfMemory

abbrev pub status_of : Stop → Status
status_of stop.ReadFault = status.ReadFault
status_of stop.TooLong = status.TooLong
status_of (stop.BadScenario line kind) = status.BadScenario line kind
status_of (stop.BadGuard line kind) = status.BadGuard line kind
status_of stop.OutOfMemory = status.OutOfMemory
