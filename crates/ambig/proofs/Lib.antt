mod Report
