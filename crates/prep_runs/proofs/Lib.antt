pub mod CarRoads
