pub mod FlightKind
