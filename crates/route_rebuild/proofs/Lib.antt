pub mod StepsBack
pub mod ChosenRun
pub mod ChosenOver
pub mod RouteValue
pub mod ChosenEnds
pub mod RouteSoFar
pub mod Joining
