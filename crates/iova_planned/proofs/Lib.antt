mod Reserving
