pub mod SalvagedSteps
