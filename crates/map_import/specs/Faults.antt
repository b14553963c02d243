-- What the faults of the layers below mean here.
use Rattle.base_graph.specs.declared.faults.GraphFault.{GraphFault}
use Rattle.base_graph.specs.declared.faults.GraphFault.TheVariants as graph
use Rattle.map_import.specs.declared.faults.ImportFault.{ImportFault}
use Rattle.map_import.specs.declared.faults.ImportFault.TheVariants as fault

abbrev pub fault_of : GraphFault → ImportFault
fault_of graph.TooManyNodes = fault.TooManyNodes
fault_of graph.TooManyEdges = fault.TooManyEdges
fault_of graph.NoMemory = fault.NoMemory
